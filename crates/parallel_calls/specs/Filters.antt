-- What a list is filtered to.
use Rattle.std.specs.Prelude.{◌≡◌, Bool, true, false, List, [], ◌∷◌, Option, Some, None, MatchOption}
use Rattle.parallel_bridge.specs.Lists.{MapOf}

-- the values among some answers, in order
abbrev pub somes : {Y : Type 0} → List (Option Y) → List Y
somes [] = []
somes (Some y ∷ answers) = y ∷ somes answers
somes (None ∷ answers) = somes answers

-- the values that the items may give, in order, of some answers to each
abbrev pub ValuesOf : {X Y : Type 0} → (X → Option Y → Type 0) → List X → List Y → Type 0
ValuesOf {Y = Y} gives xs ys =
    (answers : List (Option Y)) × MapOf gives xs answers × (ys ≡ somes answers)

-- the item where it may satisfy, and nothing where it may fail
abbrev pub KeptBy : {X : Type 0} → (X → Bool → Type 0) → X → Option X → Type 0
KeptBy verdict x kept = MatchOption kept (verdict x false) (λ y. (y ≡ x) × verdict x true)

-- the items that may satisfy, in order, of some verdicts on each
abbrev pub FilterOf : {X : Type 0} → (X → Bool → Type 0) → List X → List X → Type 0
FilterOf verdict xs ys = ValuesOf (KeptBy verdict) xs ys
