-- What a scan gives: for each place the items up to it, or before it, put together.
use Rattle.std.specs.Prelude.{◌≡◌, ℕ, ◌+◌, ◌<◌, List, [], ◌∷◌, length, slice_index_or, take}
use Rattle.std.specs.List.{scan}
use Rattle.parallel_calls.specs.Reductions.{Reduces}
use Rattle.parallel_calls.specs.declared.passes.Form.{Form}
use Rattle.parallel_calls.specs.declared.passes.Form.TheVariants.{Exclusive, Inclusive}

-- that many values, and each is a reduction of the list for its place
abbrev pub ReducesEach : {X : Type 0} → (X → X → X → Type 0) → (ℕ → List X) → ℕ → List X → Type 0
ReducesEach {X = X} op lists count ys = (length ys ≡ count)
    × ((k : ℕ) (d : X) → k < count → Reduces op (lists k) (slice_index_or ys k d))

-- as many values as items, and each is a reduction of the items up to its place
abbrev pub IsInclusiveScan : {X : Type 0} → (X → X → X → Type 0) → List X → List X → Type 0
IsInclusiveScan op xs ys = ReducesEach op (λ k. take (k + 1) xs) (length xs) ys

-- as many values as items, and each is a reduction of the start and the items before its place
abbrev pub IsExclusiveScan : {X : Type 0} → (X → X → X → Type 0) → X → List X → List X → Type 0
IsExclusiveScan op start xs ys = ReducesEach op (λ k. start ∷ take k xs) (length xs) ys

-- each item put together by a function with all before it, from the left
abbrev pub inclusive_scan_of : {X : Type 0} → (X → X → X) → List X → List X
inclusive_scan_of g [] = []
inclusive_scan_of g (x ∷ xs) = x ∷ scan g g x xs

-- for each item the start and all items before it, put together by a function from the left
abbrev pub exclusive_scan_of : {X : Type 0} → (X → X → X) → X → List X → List X
exclusive_scan_of g start xs = scan g (λ before x. before) start xs

-- how many items the value at a place takes in
abbrev pub taken_at : Form → ℕ → ℕ
taken_at Inclusive k = k + 1
taken_at Exclusive k = k

-- as many values as items, and each is a reduction of the start and the items that it takes in
abbrev pub IsScanFrom : {X : Type 0} → (X → X → X → Type 0) → X → Form → List X → List X → Type 0
IsScanFrom op start form xs ys =
    ReducesEach op (λ k. start ∷ take (taken_at form k) xs) (length xs) ys
