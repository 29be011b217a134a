-- When a fold by segments is the plain fold from the left.
use Rattle.std.specs.Prelude.{◌≡◌, Bool, IsTrue, List, fold}
use Rattle.std.specs.List.{Contains}
use Rattle.parallel_bridge.specs.Lists.{Bracketing, Brackets}
use Rattle.parallel_bridge.specs.States.{AnyState, FoldInitSegment}

-- The laws under which every bracketing is the plain fold from the left. The closures are
-- functions, f by items and g by results, on the values that are good; the identity is neutral on
-- the right of g; and a step on the right of a reduction may be taken out of it. All of this is
-- asked of good values and of the items of the list alone. They suffice: for a bracketing r of xs
-- and a good a, g a r is the fold of xs from a; for a segment by the last law repeated, for a
-- reduction by both sides. Without them it is false: 10 isn't neutral for addition.
pub record FoldLaws {X R : Type 0}
    (identity : R → Type 0) (step : R → X → R → Type 0) (reduce : R → R → R → Type 0)
    (unit : R) (f : R → X → R) (g : R → R → R) (good : R → Bool) (xs : List X) : Type 0 where
  pub starts : (e : R) → identity e → e ≡ unit
  pub steps : (a : R) (x : X) (b : R) → IsTrue (good a) → Contains xs x → step a x b → b ≡ f a x
  pub reduces : (a b r : R) → IsTrue (good a) → IsTrue (good b) → reduce a b r → r ≡ g a b
  pub good_unit : IsTrue (good unit)
  pub good_step : (a : R) (x : X) → IsTrue (good a) → Contains xs x → IsTrue (good (f a x))
  pub good_reduce : (a b : R) → IsTrue (good a) → IsTrue (good b) → IsTrue (good (g a b))
  pub neutral : (a : R) → IsTrue (good a) → g a unit ≡ a
  pub passes : (a b : R) (x : X) → IsTrue (good a) → IsTrue (good b) → Contains xs x
      → f (g a b) x ≡ g a (f b x)

-- under any such laws r is the plain fold of the list from the left
abbrev pub IsPlainFold : {X R : Type 0} → (R → Type 0) → (R → X → R → Type 0) → (R → R → R → Type 0)
    → List X → R → Type 0
IsPlainFold {X = X} {R = R} identity step reduce xs r = (unit : R) (f : R → X → R) (g : R → R → R)
    (good : R → Bool) → FoldLaws identity step reduce unit f g good xs → r ≡ fold f unit xs

-- each reduction of folds of neighbouring segments is the plain fold
abbrev pub FoldsPlainly : {X R : Type 0} → (R → Type 0) → (R → X → R → Type 0)
    → (R → R → R → Type 0) → Type 0
FoldsPlainly {X = X} {R = R} identity step reduce = (xs : List X) (r : R)
    → Bracketing identity step reduce xs r → IsPlainFold identity step reduce xs r

-- the same of folds with a state, whatever state each step is lent
abbrev pub FoldsInitPlainly : {S X R : Type 0} → (S → Type 0) → (R → Type 0)
    → (S → R → X → R → S → Type 0) → (R → R → R → Type 0) → Type 0
FoldsInitPlainly {X = X} {R = R} init identity step reduce = (xs : List X) (r : R)
    → Brackets (FoldInitSegment init identity step) reduce xs r
    → IsPlainFold identity (AnyState step) reduce xs r
