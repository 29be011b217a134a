-- A list in pieces: how many there are, a cut between two of them, and what std's iterator gives.
use Rattle.parallel_bridge.proofs.Common.{◌≡◌, ℕ, zero, suc, min, ◌≤◌, ◌<◌, ◌+◌, ◌-◌, ◌*◌, List, ◌∷◌, ◌++◌, length, map, take, drop, refl, sym, ap, subst, ◌∙◌, arith, inl, inr, suc-mul}
use Rattle.parallel_bridge.proofs.Common.{mul-le-mul_right, add-mul, length-take, length-drop, take-take, drop-drop, take_all, zero-add, zero-mul, take-append_seam, drop-append_seam, cases_lt}
use Rattle.parallel_bridge.proofs.Common.{div_ceil_times, drop_all, drop-take, length-map, map-append, take_rest, Contains-append_left, Contains-append_right, YieldsList, Bor, div_ceil, Contains}
use Rattle.parallel_bridge.proofs.Common.{AlwaysYields, IsFront, chunks_of, pieces_of}
use Rattle.parallel_bridge.proofs.Fronts.{borrows_front}
use Rattle.std.specs.Slice.Iter.{chunks_rest, chunks_size, chunks_steps}
use Rattle.std.specs.declared.slice.Chunks.{Chunks}

-- that many parts of size k hold n items, and one part less doesn't
abbrev Holds : ℕ → ℕ → ℕ → Type 0
Holds n k parts = (n ≤ parts * k) × (parts * k < n + k)

less : (n k d e : ℕ) → Holds n k d → Holds n k e → d < e → ⊥
less n k d e first second below =
    let more : suc d * k ≤ e * k = mul-le-mul_right k (omega (arith, below)) in
    omega (arith, first.0, second.1, more, suc-mul d k)

only : (n k d e : ℕ) → Holds n k d → Holds n k e → d ≡ e
only n k d e first second = elim (cases_lt d e) [
  | inl below ↦ absurd (less n k d e first second below)
  | inr above ↦ elim (cases_lt e d) [
    | inl under ↦ absurd (less n k e d second first under)
    | inr over ↦ omega (arith, above, over)
  ]
]

module _ (n k : ℕ) (some : 0 < k) where
  holds : Holds n k (div_ceil n k)
  holds = div_ceil_times n k some

  -- of the parts in front
  pub count_front : (i m : ℕ) → i ≤ div_ceil n k → m ≡ min (i * k) n → div_ceil m k ≡ i
  count_front i m within cut =
      let below = mul-le-mul_right k within in
      only m k (div_ceil m k) i (div_ceil_times m k some)
      (omega (arith, cut), omega (arith, cut, below, holds.1, some))

  -- and of the others
  pub count_back : (i m : ℕ) → i ≤ div_ceil n k → m ≡ min (i * k) n
      → div_ceil (n - m) k ≡ div_ceil n k - i
  count_back i m within cut =
      let all = div_ceil n k in let below = mul-le-mul_right k within in
      let both : all - i + i ≡ all = omega (arith, within) in
      let parts : (all - i) * k + i * k ≡ all * k =
      sym (add-mul (all - i) i k) ∙ ap (λ c. c * k) both in
      only (n - m) k (div_ceil (n - m) k) (all - i) (div_ceil_times (n - m) k some)
      (omega (arith, cut, below, parts, holds.0), omega (arith, cut, below, parts, holds.1))

module _ {A : Type 0} where
  -- there are that many pieces
  pub length_pieces : (n size : ℕ) (xs : List A) → length (pieces_of n size xs) ≡ n
  length_pieces zero size xs = refl
  length_pieces (suc n) size xs = ap suc (length_pieces n size (drop size xs))

  -- no more items are taken than there are
  pub take_least : (n m : ℕ) (xs : List A) → m ≡ min n (length xs) → take m xs ≡ take n xs
  take_least n m xs least = elim (cases_lt n (length xs)) [
    | inl short ↦ let same : m ≡ n = omega (arith, least, short) in ap (λ k. take k xs) same
    | inr long ↦ take_all m xs (omega (arith, least, long)) ∙ sym (take_all n xs long)
  ]

  drop_least : (n m : ℕ) (xs : List A) → m ≡ min n (length xs) → drop m xs ≡ drop n xs
  drop_least n m xs least = elim (cases_lt n (length xs)) [
    | inl short ↦ let same : m ≡ n = omega (arith, least, short) in ap (λ k. drop k xs) same
    | inr long ↦ drop_all m xs (omega (arith, least, long)) ∙ sym (drop_all n xs long)
  ]

  -- pieces, and after them more
  more_pieces : (m n size : ℕ) (xs : List A)
      → pieces_of m size xs ++ pieces_of n size (drop (m * size) xs) ≡ pieces_of (m + n) size xs
  more_pieces zero n size xs = ap (λ k. pieces_of n size (drop k xs)) (zero-mul size)
      ∙ ap (λ k. pieces_of k size xs) (sym (zero-add n))
  more_pieces (suc m) n size xs =
      let one : suc (m + n) ≡ suc m + n = omega arith in
      let there : drop (suc m * size) xs ≡ drop (m * size) (drop size xs) =
      let far : suc m * size ≡ size + m * size = omega (arith, suc-mul m size) in
      ap (λ k. drop k xs) far ∙ sym (drop-drop (m * size) size xs) in
      ap (λ l. take size xs ∷ (pieces_of m size (drop size xs) ++ pieces_of n size l)) there
      ∙ ap (λ l. take size xs ∷ l) (more_pieces m n size (drop size xs))
      ∙ ap (λ k. pieces_of k size xs) one

  -- pieces see no item after them
  in_front : (n m size : ℕ) (xs : List A) → n * size ≤ m
      → pieces_of n size (take m xs) ≡ pieces_of n size xs
  in_front zero m size xs within = refl
  in_front (suc n) m size xs within =
      let far = suc-mul n size in let one = take-take size m xs (omega (arith, within, far)) in
      let whole : m ≡ size + (m - size) = omega (arith, within, far) in
      let rest : drop size (take m xs) ≡ take (m - size) (drop size xs) =
      ap (λ k. drop size (take k xs)) whole ∙ drop-take size (m - size) xs in
      ap (λ l. l ∷ pieces_of n size (drop size (take m xs))) one
      ∙ ap (λ l. take size xs ∷ pieces_of n size l) rest
      ∙ ap (λ l. take size xs ∷ l) (in_front n (m - size) size (drop size xs)
      (omega (arith, within, far)))

  -- a cut after that many whole pieces, or at the end
  module _ (i m size : ℕ) (xs : List A) (some : 0 < size) (within : i ≤ div_ceil (length xs) size)
      (cut : m ≡ min (i * size) (length xs)) where
    pub front_count : div_ceil (length (take m xs)) size ≡ i
    front_count =
        let long : length (take m xs) ≡ m = length-take m xs ∙ omega (arith, cut) in
        ap (λ n. div_ceil n size) long ∙ count_front (length xs) size some i m within cut

    pub back_count : div_ceil (length (drop m xs)) size ≡ div_ceil (length xs) size - i
    back_count = ap (λ n. div_ceil n size) (length-drop m xs)
        ∙ count_back (length xs) size some i m within cut

    pub chunks_cut : chunks_of size (take m xs) ++ chunks_of size (drop m xs) ≡ chunks_of size xs
    chunks_cut =
        let rest = div_ceil (length xs) size - i in
        let all : i + rest ≡ div_ceil (length xs) size = omega (arith, within) in
        ap (λ n. pieces_of n size (take m xs) ++ chunks_of size (drop m xs)) front_count
        ∙ ap (λ n. pieces_of i size (take m xs) ++ pieces_of n size (drop m xs)) back_count
        ∙ ap (λ l. pieces_of i size l ++ pieces_of rest size (drop m xs))
        (take_least (i * size) m xs cut)
        ∙ ap (λ l. pieces_of i size (take (i * size) xs) ++ pieces_of rest size l)
        (drop_least (i * size) m xs cut) ∙ ap (λ l. l ++ pieces_of rest size (drop (i * size) xs))
        (in_front i (i * size) size xs (omega arith))
        ∙ more_pieces i rest size xs ∙ ap (λ n. pieces_of n size xs) all

    -- what comes of the front and of the back, one after another
    pub chunks_joined : (front back : List (Bor (List A)))
        → map (λ (x : Bor (List A)). x.now) front ≡ chunks_of size (take m xs)
        → map (λ (x : Bor (List A)). x.now) back
        ≡ chunks_of size (take (length xs - m) (drop m xs))
        → map (λ (x : Bor (List A)). x.now) (front ++ back) ≡ chunks_of size xs
    chunks_joined front back one two = map-append (λ (x : Bor (List A)). x.now) front back
        ∙ ap (λ l. l ++ map (λ (x : Bor (List A)). x.now) back) one
        ∙ ap (λ l. chunks_of size (take m xs) ++ l) (two ∙ ap (chunks_of size) (take_rest xs m))
        ∙ chunks_cut

    -- the front gives as many as it is long
    pub front_long : (front : List (Bor (List A)))
        → map (λ (x : Bor (List A)). x.now) front ≡ chunks_of size (take m xs) → length front ≡ i
    front_long front one = sym (length-map front (λ (x : Bor (List A)). x.now)) ∙ ap length one
        ∙ length_pieces (div_ceil (length (take m xs)) size) size (take m xs) ∙ front_count

    pub chunks_front : (front : List (Bor (List A)))
        → map (λ (x : Bor (List A)). x.now) front ≡ chunks_of size (take m xs)
        → (all : List (Bor (List A))) × (map (λ (x : Bor (List A)). x.now) all ≡ chunks_of size xs)
        × IsFront i front all
    chunks_front front one = borrows_front i front (chunks_of size (take m xs))
        (chunks_of size (drop m xs)) (chunks_of size xs)
        (length_pieces (div_ceil (length (take m xs)) size) size (take m xs) ∙ front_count)
        (sym chunks_cut) one

    -- the pieces of either part are pieces of the whole
    pub chunk_of_front : (p : List A) → Contains (chunks_of size (take m xs)) p
        → Contains (chunks_of size xs) p
    chunk_of_front p h = subst (λ l. Contains l p) chunks_cut
        (Contains-append_left (chunks_of size (take m xs)) (chunks_of size (drop m xs)) p h)

    pub chunk_of_back : (p : List A)
        → Contains (chunks_of size (take (length xs - m) (drop m xs))) p
        → Contains (chunks_of size xs) p
    chunk_of_back p h = subst (λ l. Contains l p) chunks_cut
        (Contains-append_right (chunks_of size (take m xs)) (chunks_of size (drop m xs)) p
        (subst (λ l. Contains (chunks_of size l) p) (take_rest xs m) h))

  each_chunk : (n size : ℕ) (s : Chunks A) (xs : List A) → chunks_size s ≡ size
      → chunks_rest s ≡ xs → 0 < size → Holds (length xs) size n
      → AlwaysYields chunks_steps (λ x. x.now) s (pieces_of n size xs)
  each_chunk zero size s xs same rest some held = λ x j step.
      omega (arith, step.1.2, ap length rest, held.0, zero-mul size)
  each_chunk (suc n) size s xs same rest some held = (
    λ j none. omega (arith, none.1.0, ap length rest, held.1, suc-mul n size, some),
    λ x j step.
        let split = sym rest ∙ step.1.0 in
        let long : length x.now ≡ min size (length xs) =
        step.1.1 ∙ ap (λ k. min k (length (chunks_rest s))) same
        ∙ ap (λ l. min size (length l)) rest in
        let front : take (length x.now) xs ≡ x.now =
        ap (take (length x.now)) split ∙ take-append_seam x.now (chunks_rest j) in
        let back : drop (length x.now) xs ≡ chunks_rest j =
        ap (drop (length x.now)) split ∙ drop-append_seam x.now (chunks_rest j) in
        let left = length-drop size xs in (
          sym front ∙ take_least size (length x.now) xs long,
          each_chunk n size j (drop size xs) (step.0 ∙ same)
              (sym back ∙ drop_least size (length x.now) xs long) some (
                omega (arith, left, held.0, suc-mul n size),
                omega (arith, left, held.1, suc-mul n size, some),
              ),
        ),
  )

  -- std's iterator gives the pieces
  pub chunks_come : (size : ℕ) (s : Chunks A) (xs : List A) → chunks_size s ≡ size
      → chunks_rest s ≡ xs → 0 < size → YieldsList chunks_steps (λ x. x.now) s (chunks_of size xs)
  chunks_come size s xs same rest some = record {
    runs = each_chunk (div_ceil (length xs) size) size s xs same rest some
        (div_ceil_times (length xs) size some);
  }
