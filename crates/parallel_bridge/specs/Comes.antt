-- Which values a fold may meet, and so what its closures have to accept.
use Rattle.std.specs.Prelude.{◌⊎◌, List, Result, Ok}

-- What `identity` returns may come; so may what a step returns for a value that may come and an
-- item that may, and what two values that may come are reduced to. Nothing else does.
pub data Comes {X R : Type 0} (identity : R → Type 0) (step : R → X → R → Type 0)
    (reduce : R → R → R → Type 0) (may : X → Type 0) : R → Type 0 where
  of_identity : {a : R} → identity a → Comes identity step reduce may a
  of_step : {a b : R} {x : X} → Comes identity step reduce may a → may x → step a x b
      → Comes identity step reduce may b
  of_reduction : {a b r : R} → Comes identity step reduce may a → Comes identity step reduce may b
      → reduce a b r → Comes identity step reduce may r

-- the values that a fold in one segment may meet, where nothing is reduced
abbrev pub ComesSerially : {X R : Type 0} → (R → Type 0) → (R → X → R → Type 0) → (X → Type 0) → R
    → Type 0
ComesSerially identity step may r = Comes identity step (λ _ _ _. ⊥) may r

-- the values of a fold by steps that may fail: a step that fails returns none
abbrev pub OkStep : {X R E : Type 0} → (R → X → Result R E → Type 0) → R → X → R → Type 0
OkStep step a x b = step a x (Ok b)

-- What holds of each identity, and is kept by each step and each reduction, holds of each value
-- that may come: so a caller proves what its closures require.
pub comes_within : {X R : Type 0} {identity : R → Type 0} {step : R → X → R → Type 0}
    {reduce : R → R → R → Type 0} {may : X → Type 0} (good : R → Type 0)
    → ((a : R) → identity a → good a)
    → ((a : R) (x : X) (b : R) → good a → may x → step a x b → good b)
    → ((a b r : R) → good a → good b → reduce a b r → good r)
    → (r : R) → Comes identity step reduce may r → good r
comes_within good first next both r (of_identity {a = a} i) = first a i
comes_within good first next both r (of_step {a = a} {b = b} {x = x} h m s) =
    next a x b (comes_within good first next both a h) m s
comes_within good first next both r (of_reduction {a = a} {b = b} {r = c} h k s) = both a b c
    (comes_within good first next both a h) (comes_within good first next both b k) s

-- a value that a consumer may give: that of a segment, or what two values are put together to
abbrev pub Given : {X R E : Type 0} → (List X → Result R E → Type 0)
    → (R → R → Result R E → Type 0) → R → Type 0
Given {X = X} {R = R} leaf node r = ((xs : List X) × leaf xs (Ok r))
    ⊎ ((a b : R) × node a b (Ok r))
