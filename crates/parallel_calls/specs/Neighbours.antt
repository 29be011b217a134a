-- What is asked of an item and the next one.
use Rattle.std.specs.Prelude.{◌≡◌, ℕ, ◌+◌, ◌<◌, Bool, List, length, slice_index_or}
use Rattle.std.specs.Borrow.{Bor}

-- the items at a place and at the next one may be answered so
abbrev pub HoldsAtNext : {X : Type 0} → (X → X → Bool → Type 0) → List X → ℕ → Bool → Type 0
HoldsAtNext {X = X} verdict xs place b =
    (d : X) → verdict (slice_index_or xs place d) (slice_index_or xs (place + 1) d) b

-- a closure may be called at each item and the next one
abbrev pub AcceptsNext : {X : Type 0} → (Bor X → Bor X → Type 0) → List X → Type 0
AcceptsNext {X = X} accepts xs = (left right : Bor X) (place : ℕ) → place + 1 < length xs
    → ((d : X) → left.now ≡ slice_index_or xs place d)
    → ((d : X) → right.now ≡ slice_index_or xs (place + 1) d) → accepts left right
