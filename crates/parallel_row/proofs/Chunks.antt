-- The parts of one size, of which the last one may be shorter, and their items.
use Rattle.parallel_row.proofs.Common.{◌≡◌, ℕ, ◌+◌, ◌-◌, ◌*◌, ◌/◌, ◌%◌, ◌<◌, ◌≤◌, ◌∙◌, min, inl, inr, List, length, get_or, set, take, drop, refl, sym, subst, ap, arith}
use Rattle.parallel_row.proofs.Common.{add-mul, cases_lt, div-add-mod', div_ceil, div_ceil_times, get_or-drop, get_or-set_other, get_or-set_same, get_or-take, get_or_default, length-drop, length-take, mod-mul-add, mul-le-mul_right, one-mul, take_all, zero-mul, AcceptsAt, AcceptsChunksMut, IsChunk, slice_chunk, Rises, part_of_cut}
use Rattle.parallel_row.proofs.Parts.{seen_elsewhere}
use Rattle.std.specs.Borrow.{MutBor}
use denote.Param.Members.{Shared}
use Rattle.std.specs.Fork.Halves.{AllChunks}

-- a chunk ends before a later one begins
pub ends_before : (size n h : ℕ) → n < h → n * size + size ≤ h * size
ends_before size n h l =
    let up : n + 1 ≤ h = omega (arith, l) in
    omega (arith, mul-le-mul_right size up, add-mul n 1 size, one-mul size)

-- what begins before the end of that many chunks is one of them
pub begins_before : (size n h : ℕ) → n * size < h * size → n < h
begins_before size n h l =
    elim (cases_lt n h) as (λ _. n < h) [
      | inl less ↦ less
      | inr more ↦ omega (arith, l, mul-le-mul_right size more)
    ]

-- ---- chunks of one size

-- their places rise
pub even_rises : (size len : ℕ) → Rises (λ n. min (n * size) len)
even_rises size len m n l = omega (arith, mul-le-mul_right size l)

-- together they are the list
pub even_places : (size len count : ℕ) → 0 < size → count ≡ div_ceil len size
    → min (0 * size) len + len ≡ min (count * size) len
even_places size len count some counted =
    omega (
      arith,
      zero-mul size,
      ap (λ k. k * size) counted,
      (div_ceil_times len size some).0,
    )

-- a chunk of that number begins within the list
pub even_begins : (size len count n : ℕ) → 0 < size → count ≡ div_ceil len size → n < count
    → n * size < len
even_begins size len count n some counted l =
    let ends = ends_before size n count l in
    omega (arith, ends, ap (λ k. k * size) counted, (div_ceil_times len size some).1)

-- what begins within the list is a chunk of such a number
pub even_counts : (size len count n : ℕ) → 0 < size → count ≡ div_ceil len size
    → n * size < len → n < count
even_counts size len count n some counted l =
    begins_before size n count
    (omega (arith, l, ap (λ k. k * size) counted, (div_ceil_times len size some).0))

-- the chunk as a part
pub even_part : {X : Type 0} (size len n : ℕ) → n * size < len → (xs : List X) → length xs ≡ len
    → part_of_cut (λ k. min (k * size) len) 0 n xs ≡ take size (drop (n * size) xs)
even_part size len n inside xs same =
    let sum = add-mul n 1 size in
    let one = one-mul size in
    let b = min ((n + 1) * size) len - min (n * size) len in
    let ys = drop (n * size) xs in
    let long = length-drop (n * size) xs in
    ap (λ k. take b (drop k xs)) {x = min (n * size) len - min (0 * size) len} {y = n * size}
    (omega (arith, inside, zero-mul size))
    ∙ elim (cases_lt len (n * size + size)) as (λ _. take b ys ≡ take size ys) [
      | inl short ↦
          take_all b ys (omega (arith, short, sum, one, long, same, inside))
          ∙ sym (take_all size ys (omega (arith, short, long, same)))
      | inr full ↦ ap (λ k. take k ys) {x = b} {y = size} (omega (arith, full, sum, one, inside))
    ]

module _ {X : Type 0} (size count : ℕ) (xs : List X) (some : 0 < size)
    (counted : count ≡ div_ceil (length xs) size) where
  -- what holds of each chunk holds of each part
  pub parts_from_chunks : (P : ℕ → List X → Type 0)
      → ((n : ℕ) → n * size < length xs → P (0 + n * size) (slice_chunk xs size n))
      → (n : ℕ) → 0 ≤ n → n < count
      → P (min (n * size) (length xs)) (part_of_cut (λ k. min (k * size) (length xs)) 0 n xs)
  parts_from_chunks P each n low high =
      let inside = even_begins size (length xs) count n some counted high in
      subst (P (min (n * size) (length xs))) (sym (even_part size (length xs) n inside xs refl))
      (subst (λ i. P i (slice_chunk xs size n)) {x = 0 + n * size} (omega (arith, inside))
      (each n inside))

  -- where each part has changed, each chunk has
  pub chunks_from_parts : (R : ℕ → List X → List X → Type 0) (ys : List X) (given : ℕ)
      → size ≡ given → length ys ≡ length xs
      → ((n : ℕ) → 0 ≤ n → n < count → R (min (n * size) (length xs))
      (part_of_cut (λ k. min (k * size) (length xs)) 0 n xs)
      (part_of_cut (λ k. min (k * size) (length xs)) 0 n ys))
      → (n : ℕ) → n * given < length xs
      → R (n * given) (slice_chunk xs given n) (slice_chunk ys given n)
  chunks_from_parts R ys given is same each =
      subst (λ k. (n : ℕ) → n * k < length xs
      → R (n * k) (slice_chunk xs k n) (slice_chunk ys k n)) is
      (λ n inside. seen_elsewhere R {i = min (n * size) (length xs)} (omega (arith, inside))
      (even_part size (length xs) n inside xs refl) (even_part size (length xs) n inside ys same)
      (each n (omega arith) (even_counts size (length xs) count n some counted inside)))

-- a multiple of the size is that many chunks long
pub whole_chunks : (len size : ℕ) → len % size ≡ 0 → len ≡ len / size * size
whole_chunks len size is = omega (arith, is, div-add-mod' len size)

-- ---- std's chunks

-- chunk n is one
pub chunk_is : {X : Type 0} (xs : List X) (size n : ℕ) → 0 < size → n * size < length xs
    → IsChunk xs size (n * size) (slice_chunk xs size n)
chunk_is xs size n some inside =
    let left = length-drop (n * size) xs in
    let len = length-take size (drop (n * size) xs) in
    record {
      value = refl;
      start_is_multiple =
          subst (λ i. i % size ≡ 0) {x = n * size + 0} (omega arith) (mod-mul-add n size 0 some);
      len = omega (arith, len, left);
      nonempty = omega (arith, len, left, some, inside);
      at_most_size = omega (arith, len);
      in_bounds = omega (arith, len, left, inside);
      full_size =
          λ whole. let all = whole_chunks (length xs) size whole in
          let less = begins_before size n (length xs / size) (omega (arith, inside, all)) in
          omega (arith, len, left, all, ends_before size n (length xs / size) less);
      elements =
          λ k d l. get_or-take size (drop (n * size) xs) k d (omega (arith, l, len))
          ∙ get_or-drop (n * size) xs k d;
    }

-- a closure that accepts each of them accepts each chunk
pub chunks_accepted : {F X : Type 0}
    (g : Shared F (ℕ × (MutBor (List X) × Unit {0})) (Unit {0} × (MutBor (List X) × Unit {0})))
    (f : F) (xs : List X) (size given : ℕ) → size ≡ given → 0 < size
    → AcceptsChunksMut g f given xs → AllChunks (AcceptsAt g f) 0 size xs
chunks_accepted g f xs size given is some accepts n l p same =
    let each = subst (λ k. AcceptsChunksMut g f k xs) (sym is) accepts in
    subst (λ i. g.pre f (i, (p, tt))) {x = n * size} (omega arith)
    (each (n * size) p
    (subst (IsChunk xs size (n * size)) (sym same) (chunk_is xs size n some l)))

-- ---- items

-- an item of a chunk
pub item_of_chunk : {X : Type 0} (xs : List X) (size n k : ℕ) (d : X) → k < size
    → get_or (slice_chunk xs size n) k d ≡ get_or xs (n * size + k) d
item_of_chunk xs size n k d inside =
    get_or-take size (drop (n * size) xs) k d inside ∙ get_or-drop (n * size) xs k d

-- how many items a chunk has
pub length_of_chunk : {X : Type 0} (xs : List X) (size n : ℕ)
    → length (slice_chunk xs size n) ≡ min size (length xs - n * size)
length_of_chunk xs size n =
    omega (arith, length-take size (drop (n * size) xs), length-drop (n * size) xs)

-- a list of which one item more has changed
pub one_more_changed : {X : Type 0} (R : ℕ → X → X → Type 0) (xs ys : List X) (k : ℕ) (e y : X)
    → k < length ys → ((j : ℕ) (d : X) → k ≤ j → get_or ys j d ≡ get_or xs j d)
    → ((j : ℕ) (d : X) → j < k → R j (get_or xs j d) (get_or ys j d))
    → R k (get_or ys k e) y
    → (j : ℕ) (d : X) → j < k + 1 → R j (get_or xs j d) (get_or (set ys k y) j d)
one_more_changed R xs ys k e y inside kept changed call j d l =
    elim (cases_lt j k) as (λ _. R j (get_or xs j d) (get_or (set ys k y) j d)) [
      | inl less ↦
          subst (R j (get_or xs j d))
          (sym (get_or-set_other ys k j y d (λ same. omega (arith, same, less))))
          (changed j d less)
      | inr more ↦
          let is : k ≡ j = omega (arith, l, more) in
          subst (λ i. R i (get_or xs i d) (get_or (set ys k y) i d)) is
          (seen_elsewhere R refl
          (get_or_default ys k e d inside ∙ kept k d (omega arith))
          (sym (get_or-set_same ys k y d inside)) call)
    ]
