-- What a test says of an item, as the result of a step that stops, and of a list's items together.
use Rattle.std.specs.Prelude.{◌≡◌, ℕ, Bool, true, false, List, Option, Some, None, Result, MatchResult, All, ⊤}
use Rattle.parallel_bridge.specs.Firsts.{IsFirst}
use Rattle.parallel_calls.specs.Firsts.{FirstOf}

-- the step goes on where the item may be answered so, and stops where it may be answered otherwise
abbrev pub StopsUnless : {X : Type 0} → Bool → (X → Bool → Type 0) → X → Result ⊤ ⊤ → Type 0
StopsUnless true verdict x out = MatchResult out (λ _. verdict x true) (λ _. verdict x false)
StopsUnless false verdict x out = MatchResult out (λ _. verdict x false) (λ _. verdict x true)

-- the step goes on where the item may fail, and stops with the item where it may satisfy
abbrev pub LooksFor : {X : Type 0} → (X → Bool → Type 0) → X → Result ⊤ X → Type 0
LooksFor verdict x out = MatchResult out (λ _. verdict x false) (λ y. (y ≡ x) × verdict x true)

-- the step goes on where the item of the pair may fail, and stops with the place where it may
-- satisfy
abbrev pub LooksForPlace : {X : Type 0} → (X → Bool → Type 0) → (ℕ × X) → Result ⊤ ℕ → Type 0
LooksForPlace verdict item out =
    MatchResult out (λ _. verdict item.1 false) (λ place. (place ≡ item.0) × verdict item.1 true)

-- the step goes on where the item may give none, and stops with a value that it may give
abbrev pub LooksForValue : {X Y : Type 0} → (X → Option Y → Type 0) → X → Result ⊤ Y → Type 0
LooksForValue gives x out = MatchResult out (λ _. gives x None) (λ y. gives x (Some y))

-- true where some item may satisfy, and false where each may fail
abbrev pub AnyOf : {X : Type 0} → (X → Bool → Type 0) → List X → Bool → Type 0
AnyOf {X = X} verdict xs true = (x : X) × FirstOf verdict xs (Some x)
AnyOf verdict xs false = All (λ x. verdict x false) xs

-- true where each item may satisfy, and false where some may fail
abbrev pub AllOf : {X : Type 0} → (X → Bool → Type 0) → List X → Bool → Type 0
AllOf verdict xs true = All (λ x. verdict x true) xs
AllOf {X = X} verdict xs false = (x : X) × (place : ℕ)
    × IsFirst (λ y. verdict y false) (λ y. verdict y true) xs x place
