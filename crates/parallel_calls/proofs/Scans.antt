-- What the passes of a scan come to.
use Rattle.std.proofs.Common.{◌≡◌, ℕ, zero, suc, ◌+◌, ◌*◌, ◌/◌, ◌%◌, ◌<◌, ◌≤◌, ◌∙◌, List, [], ◌∷◌, ◌++◌, length, get_or, set, take, drop, refl, sym, ap, subst, arith}
use Rattle.std.proofs.Common.{append-nil, append_assoc, div-add-mod', get_or-set_other, get_or-take, length-take}
use Rattle.std.proofs.Math.Nat.{mul-div_cancel, zero-mul}
use Rattle.std.proofs.Math.Seq.{take-add}
use Rattle.std.proofs.lemmas.List.{drop-drop, take-take, take_more}
use Rattle.std.specs.Fork.{slice_chunk}
use Rattle.std.specs.Int.{div_ceil}
use Rattle.parallel_row.proofs.Chunks.{even_counts, item_of_chunk, length_of_chunk, one_more_changed}
use Rattle.parallel_calls.specs.Reductions.{Reduces, of_one, of_two}
use Rattle.parallel_calls.specs.Scans.{IsInclusiveScan, IsScanFrom, ReducesEach, taken_at}
use Rattle.parallel_calls.specs.declared.passes.Form.{Form}
use Rattle.parallel_calls.specs.declared.passes.Form.TheVariants.{Exclusive, Inclusive}

-- a value takes in as many more items as its place lies further on
taken_after : (form : Form) (m k : ℕ) → m + taken_at form k ≡ taken_at form (m + k)
taken_after Inclusive m k = omega arith
taken_after Exclusive m k = refl

-- those up to its place at most
taken_within : (form : Form) (k n : ℕ) → k < n → taken_at form k ≤ n
taken_within Inclusive k n l = omega arith
taken_within Exclusive k n l = omega arith

module _ {X : Type 0} (op : X → X → X → Type 0) where
  -- the operation takes in one item more
  pub reduces_more : (xs : List X) (k : ℕ) (a x b : X) → k < length xs → get_or xs k x ≡ x
      → Reduces op (take k xs) a → op a x b → Reduces op (take (k + 1) xs) b
  reduces_more xs k a x b inside is before one =
      of_two (take_more xs k x inside ∙ ap (λ y. take k xs ++ (y ∷ [])) is) before (of_one refl) one

  -- the same behind a start
  pub reduces_more_from : (start : X) (xs : List X) (k : ℕ) (a x b : X) → k < length xs
      → get_or xs k x ≡ x → Reduces op (start ∷ take k xs) a → op a x b
      → Reduces op (start ∷ take (k + 1) xs) b
  reduces_more_from start xs k a x b inside is before one =
      of_two (ap (λ zs. start ∷ zs) (take_more xs k x inside ∙ ap (λ y. take k xs ++ (y ∷ [])) is))
      before (of_one refl) one

  -- the first item is one of itself
  pub reduces_first : (xs : List X) (x : X) → 0 < length xs → get_or xs 0 x ≡ x
      → Reduces op (take 1 xs) x
  reduces_first xs x some is = of_one (take_more xs 0 x some ∙ ap (λ y. y ∷ []) is)

  -- The items from a place on are as they were, those before it are scanned from a start, and so
  -- far come the start and all before the place.
  abbrev pub ScannedBelow : Form → X → ℕ → List X → List X → X → Type 0
  ScannedBelow form start k xs ys so_far =
      ((j : ℕ) (d : X) → k ≤ j → get_or ys j d ≡ get_or xs j d)
      × Reduces op (start ∷ take k xs) so_far
      × ((j : ℕ) (d : X) → j < k
      → Reduces op (start ∷ take (taken_at form j) xs) (get_or ys j d))

  pub scanned_none : (form : Form) (start : X) (xs : List X)
      → ScannedBelow form start 0 xs xs start
  scanned_none form start xs = (λ j d l. refl, of_one refl, λ j d l. absurd (omega arith))

  -- with the next item
  pub so_far_more : (form : Form) (start : X) (k : ℕ) (xs ys : List X) (so_far x next : X)
      → k < length xs → x ≡ get_or ys k x → op so_far x next
      → ScannedBelow form start k xs ys so_far → Reduces op (start ∷ take (k + 1) xs) next
  so_far_more form start k xs ys so_far x next inside is one below =
      reduces_more_from start xs k so_far x next inside
      (sym (is ∙ below.0 k x (omega arith))) below.1 one

  -- once a value is put at the place
  pub scanned_more : (form : Form) (start : X) (k : ℕ) (xs ys : List X) (so_far next v : X)
      → k < length ys → ScannedBelow form start k xs ys so_far
      → Reduces op (start ∷ take (k + 1) xs) next
      → Reduces op (start ∷ take (taken_at form k) xs) v
      → ScannedBelow form start (k + 1) xs (set ys k v) next
  scanned_more form start k xs ys so_far next v inside below more here = (
    λ j d l. get_or-set_other ys k j v d (λ same. omega (arith, same, l))
        ∙ below.0 j d (omega arith),
    more,
    one_more_changed (λ j x y. Reduces op (start ∷ take (taken_at form j) xs) y) xs ys k start v
        inside below.0 below.2 here,
  )

  -- The list is lists one after another, and each value is a reduction of one of them.
  abbrev MadeOf : List X → List X → Type 0
  MadeOf [] ys = ys ≡ []
  MadeOf (t ∷ ts) ys = (xs : List X) × (zs : List X) × (ys ≡ xs ++ zs) × Reduces op xs t
      × MadeOf ts zs

  split_made : (us vs ys : List X) → MadeOf (us ++ vs) ys → (front : List X) × (back : List X)
      × (ys ≡ front ++ back) × MadeOf us front × MadeOf vs back
  split_made [] vs ys h = ([], ys, refl, refl, h)
  split_made (u ∷ us) vs ys (xs, zs, is, one, rest) =
      let more = split_made us vs zs rest in (
        xs ++ more.0,
        more.1,
        is ∙ ap (λ l. xs ++ l) more.2 ∙ sym (append_assoc xs more.0 more.1),
        (xs, more.0, refl, one, more.3),
        more.4,
      )

  made_alone : (x : X) (ys : List X) → MadeOf (x ∷ []) ys → Reduces op ys x
  made_alone x ys (xs, zs, is, one, none) =
      subst (λ l. Reduces op l x) (sym (is ∙ ap (λ l. xs ++ l) none ∙ append-nil xs)) one

  -- a reduction of reductions is one
  reduced_again : {ts : List X} {r : X} → Reduces op ts r → (ys : List X) → MadeOf ts ys
      → Reduces op ys r
  reduced_again (of_one {x = x} one) ys made =
      made_alone x ys (subst (λ l. MadeOf l ys) one made)
  reduced_again (of_two {xs = us} {ys = vs} split left right one) ys made =
      let cut = split_made us vs ys (subst (λ l. MadeOf l ys) split made) in
      of_two cut.2 (reduced_again left cut.0 cut.3) (reduced_again right cut.1 cut.4) one

  items_made : (xs : List X) → MadeOf xs xs
  items_made [] = refl
  items_made (x ∷ xs) = (x ∷ [], xs, refl, of_one refl, items_made xs)

  -- a reduction of a front stands for it
  behind_front : (front xs : List X) (a r : X) → Reduces op front a → Reduces op (a ∷ xs) r
      → Reduces op (front ++ xs) r
  behind_front front xs a r before h =
      reduced_again h (front ++ xs) (front, xs, refl, before, items_made xs)

  -- an inclusive scan that the first item is the start of
  first_scanned : (x : X) (xs ys : List X)
      → ((k : ℕ) (d : X) → k < length xs → Reduces op (x ∷ take (k + 1) xs) (get_or ys k d))
      → (k : ℕ) (d : X) → k < suc (length xs)
      → Reduces op (take (k + 1) (x ∷ xs)) (get_or (x ∷ ys) k d)
  first_scanned x xs ys each zero d l = of_one refl
  first_scanned x xs ys each (suc k) d l =
      subst (λ n. Reduces op (take n (x ∷ xs)) (get_or ys k d)) {x = suc (k + 1)} (omega arith)
      (each k d (omega arith))

  pub scanned_after_first : (x : X) (xs ys : List X) → IsScanFrom op x Inclusive xs ys
      → IsInclusiveScan op (x ∷ xs) (x ∷ ys)
  scanned_after_first x xs ys h = (ap suc h.0, first_scanned x xs ys h.1)

  -- the same where the first item is split off
  pub scanned_behind_first : (x : X) (xs front rest ys : List X) → xs ≡ front ++ rest
      → length front ≡ 1 → x ≡ get_or xs 0 x → IsScanFrom op x Inclusive rest ys
      → IsInclusiveScan op xs (front ++ ys)
  scanned_behind_first x xs [] rest ys is one first h = absurd (omega (arith, one))
  scanned_behind_first x xs (z ∷ []) rest ys is one first h =
      let same : x ≡ z = first ∙ ap (λ l. get_or l 0 x) is in
      subst (λ l. IsInclusiveScan op l (z ∷ ys)) (sym is)
      (scanned_after_first z rest ys (subst (λ v. IsScanFrom op v Inclusive rest ys) same h))
  scanned_behind_first x xs (z ∷ (w ∷ more)) rest ys is one first h =
      absurd (omega (arith, one))

  module _ (size : ℕ) where
    totals_made : (ts xs : List X)
        → ((k : ℕ) (d : X) → k < length ts → Reduces op (slice_chunk xs size k) (get_or ts k d))
        → MadeOf ts (take (length ts * size) xs)
    totals_made [] xs each = ap (λ k. take k xs) (zero-mul size)
    totals_made (t ∷ ts) xs each = (
      take size xs,
      take (length ts * size) (drop size xs),
      ap (λ k. take k xs) {x = suc (length ts) * size} {y = size + length ts * size} (omega arith)
          ∙ take-add size (length ts * size) xs,
      subst (λ k. Reduces op (take size (drop k xs)) t) (zero-mul size) (each 0 t (omega arith)),
      totals_made ts (drop size xs)
          (λ k d l. subst (λ zs. Reduces op (take size zs) (get_or ts k d))
          (ap (λ m. drop m xs) {x = suc k * size} {y = size + k * size} (omega arith)
          ∙ sym (drop-drop (k * size) size xs)) (each (suc k) d (omega arith))),
    )

    fronts_made : (ts xs : List X) (n : ℕ) → n ≤ length ts
        → ((k : ℕ) (d : X) → k < length ts → Reduces op (slice_chunk xs size k) (get_or ts k d))
        → MadeOf (take n ts) (take (n * size) xs)
    fronts_made ts xs n within each =
        let same : length (take n ts) ≡ n = omega (arith, length-take n ts) in
        subst (λ m. MadeOf (take n ts) (take (m * size) xs)) same
        (totals_made (take n ts) xs (λ k d l. subst (Reduces op (slice_chunk xs size k))
        (sym (get_or-take n ts k d (omega (arith, same))))
        (each k d (omega (arith, same)))))

    -- where the totals of the chunks are scanned from the start, each value is a reduction of what
    -- stands before its chunk
    pub fronts_scanned : (start : X) (ts xs fs : List X) (count : ℕ)
        → ReducesEach op (slice_chunk xs size) count ts → IsScanFrom op start Exclusive ts fs
        → ReducesEach op (λ n. start ∷ take (n * size) xs) count fs
    fronts_scanned start ts xs fs count totals scan = (
      scan.0 ∙ totals.0,
      λ n d l.
          let inside : n < length ts = omega (arith, totals.0) in
          reduced_again (scan.1 n d inside) (start ∷ take (n * size) xs) (
            start ∷ [],
            take (n * size) xs,
            refl,
            of_one refl,
            fronts_made ts xs n (omega arith) (λ k e l'. totals.1 k e (omega (arith, totals.0))),
          ),
    )

    -- what a value of a chunk takes in, after all before the chunk
    taken_in_chunk : (form : Form) (xs : List X) (n k : ℕ) → k < size
        → take (n * size) xs ++ take (taken_at form k) (slice_chunk xs size n)
        ≡ take (taken_at form (n * size + k)) xs
    taken_in_chunk form xs n k l =
        ap (λ zs. take (n * size) xs ++ zs)
        (take-take (taken_at form k) size (drop (n * size) xs) (taken_within form k size l))
        ∙ sym (take-add (n * size) (taken_at form k) xs)
        ∙ ap (λ m. take m xs) (taken_after form (n * size) k)

    scanned_at : (form : Form) (start : X) (xs ys : List X) (a : X) (n k : ℕ) (d : X) → k < size
        → Reduces op (start ∷ take (n * size) xs) a
        → Reduces op (a ∷ take (taken_at form k) (slice_chunk xs size n))
        (get_or (slice_chunk ys size n) k d)
        → Reduces op (start ∷ take (taken_at form (n * size + k)) xs) (get_or ys (n * size + k) d)
    scanned_at form start xs ys a n k d l before h =
        subst (Reduces op (start ∷ take (taken_at form (n * size + k)) xs))
        (item_of_chunk ys size n k d l)
        (subst (λ zs. Reduces op (start ∷ zs) (get_or (slice_chunk ys size n) k d))
        (taken_in_chunk form xs n k l)
        (behind_front (start ∷ take (n * size) xs) (take (taken_at form k) (slice_chunk xs size n))
        a _ before h))

    -- a chunk that was scanned from the front that its place names
    pub chunk_scanned : (form : Form) (fs xs ys us vs : List X) (n each : ℕ) (d : X) → 0 < size
        → each ≡ size → us ≡ slice_chunk xs size n → vs ≡ slice_chunk ys size n
        → IsScanFrom op (get_or fs (n * size / each) d) form us vs
        → IsScanFrom op (get_or fs n d) form (slice_chunk xs size n) (slice_chunk ys size n)
    chunk_scanned form fs xs ys us vs n each d some is old new h =
        subst (IsScanFrom op (get_or fs n d) form (slice_chunk xs size n)) new
        (subst (λ zs. IsScanFrom op (get_or fs n d) form zs vs) old
        (subst (λ k. IsScanFrom op (get_or fs k d) form us vs)
        (ap (λ m. n * size / m) is ∙ mul-div_cancel n some) h))

    -- where each chunk is scanned from what stands before it, the list is
    pub chunks_scanned : (form : Form) (start : X) (xs ys fs : List X) → 0 < size
        → length ys ≡ length xs
        → ReducesEach op (λ n. start ∷ take (n * size) xs) (div_ceil (length xs) size) fs
        → ((n : ℕ) (d : X) → n * size < length xs
        → IsScanFrom op (get_or fs n d) form (slice_chunk xs size n) (slice_chunk ys size n))
        → IsScanFrom op start form xs ys
    chunks_scanned form start xs ys fs some same fronts each = (
      same,
      λ i d l.
          let n : ℕ = i / size in
          let k : ℕ = i % size in
          let is : n * size + k ≡ i = div-add-mod' i size in
          let short : k < size = omega arith in
          let begins : n * size < length xs = omega arith in
          let count : n < div_ceil (length xs) size =
          even_counts size (length xs) (div_ceil (length xs) size) n some refl begins in
          let within : k < length (slice_chunk xs size n) =
          omega (arith, length_of_chunk xs size n) in
          subst (λ m. Reduces op (start ∷ take (taken_at form m) xs) (get_or ys m d)) is
          (scanned_at form start xs ys (get_or fs n d) n k d short (fronts.1 n d count)
          ((each n d begins).1 k d within)),
    )
