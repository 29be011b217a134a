-- The first item of each run of neighbours that are the same.
use Rattle.std.specs.Prelude.{◌≡◌, ℕ, ◌-◌, ◌<◌, Bool, true, false, cond, List, [], ◌∷◌, Option, MatchOption, slice_index_or}
use Rattle.std.specs.Borrow.{Bor}
use Rattle.parallel_calls.specs.Neighbours.{HoldsAtNext}

-- Of some answers at each item and the one before it, the first of which has the given one before
-- it: the items that are answered false, in order.
abbrev pub DedupAfter : {X : Type 0} → (X → X → Bool → Type 0) → X → List X → List X → Type 0
DedupAfter verdict before [] ys = ys ≡ []
DedupAfter {X = X} verdict before (x ∷ xs) ys = (same : Bool) × (rest : List X)
    × verdict before x same × DedupAfter verdict x xs rest × (ys ≡ cond same rest (x ∷ rest))

-- the first item, and after it those that are answered false of the one before them and themselves
abbrev pub DedupOf : {X : Type 0} → (X → X → Bool → Type 0) → List X → List X → Type 0
DedupOf verdict [] ys = ys ≡ []
DedupOf {X = X} verdict (x ∷ xs) ys =
    (rest : List X) × DedupAfter verdict x xs rest × (ys ≡ x ∷ rest)

-- the items that a function says aren't the same as the one before them, of which the first one has
-- the given one before it
abbrev pub dedup_after : {X : Type 0} → (X → X → Bool) → X → List X → List X
dedup_after same before [] = []
dedup_after same before (x ∷ xs) =
    cond (same before x) (dedup_after same x xs) (x ∷ dedup_after same x xs)

-- the first item, and then each that a function says isn't the same as the one before it
abbrev pub dedup_of : {X : Type 0} → (X → X → Bool) → List X → List X
dedup_of same [] = []
dedup_of same (x ∷ xs) = x ∷ dedup_after same x xs

-- what may be answered of the item at a place and the one before it; false of the first one
abbrev pub RepeatsAt : {X : Type 0} → (X → X → Bool → Type 0) → List X → ℕ → Bool → Type 0
RepeatsAt verdict xs place same =
    (place ≡ 0 → same ≡ false) × (0 < place → HoldsAtNext verdict xs (place - 1) same)

-- a borrow of the item at a place where that may be answered false, and nothing where it may be
-- answered true
abbrev pub KeptAt : {X : Type 0} → (X → X → Bool → Type 0) → List X → ℕ → Option (Bor X) → Type 0
KeptAt verdict xs place kept = MatchOption kept (RepeatsAt verdict xs place true)
    (λ item. (item.now ≡ slice_index_or xs place item.now) × RepeatsAt verdict xs place false)
