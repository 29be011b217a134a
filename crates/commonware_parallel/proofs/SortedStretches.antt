-- Stretches that cut a grid, in the order of their places, follow one another.
use Rattle.commonware_parallel.proofs.Common.{◌≡◌, ℕ, suc, ◌+◌, ◌-◌, ◌*◌, ◌/◌, ◌%◌, ◌^◌, ◌<◌, ◌≤◌, inl, inr, List, [], ◌∷◌, All, get_or, refl, sym, ap, ◌∙◌, arith, sum_by, mod-add-div, mod-lt}
use Rattle.commonware_parallel.proofs.Common.{cases_lt, All-nil, All-cons, All-head, All-map, All-tail, sum_by-IsPermutation, All-permutation, row_fits, Stretch, inside, same_number, IsStretch, cut_cells}
use Rattle.commonware_parallel.proofs.Common.{stretch_cells, total, times, inside_within, inside_before, inside_after, inside_cut, times_range, total_append, total_zero, stretches_in, wrapped_place}
use Rattle.commonware_parallel.proofs.Common.{IsThere, Follows, CutsRectangle}
use Rattle.commonware_parallel.specs.MergedRows.{place_of}
use Rattle.std.specs.List.Sorted.{IsPermutation, IsNonDecreasingBy}
use Rattle.std.proofs.lemmas.List.Sums.{sum_by-cons}
use Rattle.commonware_parallel.proofs.Rectangles.{has_all, row_there}

total_is_sum : {A : Type 0} (f : A → ℕ) (xs : List A) → total f xs ≡ sum_by f xs
total_is_sum f [] = refl
total_is_sum f (x ∷ xs) = omega (arith, total_is_sum f xs, sum_by-cons f x xs)

module _ {R : Type 0} (rows len : ℕ) where
  -- how often a stretch has a cell, by the cell's place
  abbrev pub holds_cell : ℕ → Stretch × R → ℕ
  holds_cell k part = inside k (place_of len part.0) (part.0.row * len + part.0.columns.end)

  -- the stretches hold the cells from one up to another once, and no other cell
  abbrev pub HoldCells : ℕ → ℕ → List (Stretch × R) → Type 0
  HoldCells p n parts = (k : ℕ) → total (holds_cell k) parts ≡ inside k p n

  -- where a stretch ends is within the grid
  ends_within : (part : Stretch × R) → IsThere rows len part
      → part.0.row * len + part.0.columns.end ≤ rows * len
  ends_within part is =
      omega (arith, row_fits part.0.row len rows len is.0 (omega arith), is.1.1)

  pub in_order : (p : ℕ) (parts : List (Stretch × R)) → All (IsThere rows len) parts
      → IsNonDecreasingBy (λ (part : Stretch × R). place_of len part.0) parts → p ≤ rows * len
      → HoldCells p (rows * len) parts → Follows len p (rows * len) parts
  in_order p [] all up below holds = elim (cases_lt p (rows * len)) as (λ _. p ≡ rows * len) [
    | inl l ↦ absurd (omega (
      arith,
      holds p,
      inside_within p p (rows * len) (omega arith) l,
    ))
    | inr m ↦ omega (arith, below, m)
  ]
  in_order p (part ∷ parts) all up below holds =
      let is : IsThere rows len part = All-head (IsThere rows len) part parts all in
      let n : ℕ = rows * len in
      let a : ℕ = place_of len part.0 in
      let e : ℕ = part.0.row * len + part.0.columns.end in
      let some : a < e = omega (arith, is.1.0) in
      let end : e ≤ n = ends_within part is in
      let own : inside a a e ≡ 1 = inside_within a a e (omega arith) some in
      let at : (k : ℕ) → inside k a e + total (holds_cell k) parts ≡ inside k p n = holds in
      let least : p ≤ a = elim (cases_lt a p) as (λ _. p ≤ a) [
        | inl l ↦ absurd (omega (arith, at a, own, inside_before a p n l))
        | inr m ↦ m
      ] in
      let first : a ≡ p = elim (cases_lt p a) as (λ _. a ≡ p) [
        | inl l ↦
            let none : total (holds_cell p) (part ∷ parts) ≡ 0 =
            total_zero (holds_cell p) (part ∷ parts) (λ j d h. inside_before p
            (place_of len (get_or (part ∷ parts) j d).0)
            ((get_or (part ∷ parts) j d).0.row * len + (get_or (part ∷ parts) j d).0.columns.end)
            (omega (arith, l, up 0 j d (omega arith) h))) in
            absurd (omega (
              arith,
              none,
              holds p,
              inside_within p p n (omega arith) (omega (arith, l, some, end)),
            ))
        | inr m ↦ omega (arith, least, m)
      ] in (
        first,
        in_order e parts (All-tail (IsThere rows len) part parts all)
            (λ i j d h l. up (suc i) (suc j) d (omega (arith, h)) (omega (arith, l))) end
            (λ k. omega (
              arith,
              at k,
              ap (λ x. inside k x e) first,
              inside_cut k p e n (omega (arith, first, some)) end,
            )),
      )

  -- ---- what cuts the grid holds its cells

  -- by places, and by cells
  held : (k : ℕ) (parts : List (Stretch × R)) → All (IsThere rows len) parts
      → total (holds_cell k) parts ≡ times k (cut_cells len (stretches_in parts))
  held k [] all = refl
  held k (part ∷ parts) all =
      let is : IsThere rows len part = All-head (IsThere rows len) part parts all in
      let a : ℕ = place_of len part.0 in
      let w : ℕ = part.0.columns.end - part.0.columns.start in
      let width : a + w ≡ part.0.row * len + part.0.columns.end = omega (arith, is.1.0) in
      omega (
        arith,
        held k parts (All-tail (IsThere rows len) part parts all),
        total_append (same_number k) (stretch_cells len part.0)
            (cut_cells len (stretches_in parts)),
        times_range k a w,
        ap (inside k a) width,
      )

  each_there : (parts : List (Stretch × R))
      → All (λ s. (s.row < rows) × IsStretch len s) (stretches_in parts)
      → All (IsThere rows len) parts
  each_there [] all = All-nil (IsThere rows len)
  each_there (part ∷ parts) all =
      All-cons (IsThere rows len) part parts
      (All-head (λ s. (s.row < rows) × IsStretch len s) part.0 (stretches_in parts) all)
      (each_there parts
      (All-tail (λ s. (s.row < rows) × IsStretch len s) part.0 (stretches_in parts) all))

  holds_all : (parts : List (Stretch × R)) → 0 < len → CutsRectangle rows len (stretches_in parts)
      → HoldCells 0 (rows * len) parts
  holds_all parts wide cuts k =
      let there : All (IsThere rows len) parts = each_there parts cuts.within in
      elim (cases_lt k (rows * len)) as (λ _. total (holds_cell k) parts
      ≡ inside k 0 (rows * len)) [
        | inl l ↦
            let row : ℕ = k / len in
            let column : ℕ = k % len in
            let below : column < len = mod-lt k wide in
            let place : row * len + column ≡ k = omega (arith, mod-add-div k len) in
            let one : total (holds_cell k) parts ≡ 1 =
            held k parts there
            ∙ ap (λ c. times c (cut_cells len (stretches_in parts))) (sym place)
            ∙ sym (has_all len row column below (stretches_in parts)
            (All-map (IsStretch len) (λ (part : Stretch × R). part.0) parts (λ i d h. (there i d h).1)))
            ∙ cuts.once row column (row_there rows row len (omega (arith, place, l))) below in
            one ∙ sym (inside_within k 0 (rows * len) (omega arith) l)
        | inr m ↦
            total_zero (holds_cell k) parts (λ j d h. inside_after k
            (place_of len (get_or parts j d).0)
            ((get_or parts j d).0.row * len + (get_or parts j d).0.columns.end)
            (omega (arith, m, ends_within (get_or parts j d) (there j d h))))
            ∙ sym (inside_after k 0 (rows * len) m)
      ]

  -- the place of a stretch of the grid doesn't wrap around
  unwrapped : (part : Stretch × R) → rows * len < 2 ^ 64 → IsThere rows len part
      → wrapped_place len part.0 ≡ place_of len part.0
  unwrapped part fits is = omega (arith, fits, ends_within part is, is.1.0)

  -- stretches that cut the grid, sorted by their places
  pub sorted_follow : (parts ordered : List (Stretch × R)) → 0 < len → rows * len < 2 ^ 64
      → CutsRectangle rows len (stretches_in parts) → IsPermutation parts ordered
      → IsNonDecreasingBy (λ (part : Stretch × R). wrapped_place len part.0) ordered
      → All (IsThere rows len) ordered × Follows len 0 (rows * len) ordered
  sorted_follow parts ordered wide fits cuts moved up =
      let there : All (IsThere rows len) ordered =
      All-permutation (IsThere rows len) parts ordered moved (each_there parts cuts.within) in (
        there,
        in_order 0 ordered there
            (λ i j d h l. omega (
              arith,
              up i j d h l,
              unwrapped (get_or ordered i d) fits (there i d (omega (arith, h, l))),
              unwrapped (get_or ordered j d) fits (there j d l),
            ))
            (omega arith)
            (λ k. total_is_sum (holds_cell k) ordered
            ∙ sum_by-IsPermutation (holds_cell k) parts ordered moved
            ∙ sym (total_is_sum (holds_cell k) parts) ∙ holds_all parts wide cuts k),
      )
