-- The first least item of a list and the last greatest one.
use Rattle.std.specs.Prelude.{◌≡◌, ◌⊎◌, Bool, true, false, not, cond, List, [], ◌∷◌, ◌++◌, All, Option, Some, None, MatchOption}
use Rattle.std.specs.Fn.{FnReturnsAtPair, Shared}
use Rattle.std.specs.Borrow.{Bor}
use Rattle.std.specs.Ordering.{is_lt}
use Rattle.std.specs.declared.cmp.Ordering.{Ordering}

-- whatever the closure answers at two items is `Less` just where lt holds
abbrev pub OrdersBy : {F X : Type 0} → Shared F (Bor X × (Bor X × Unit {0})) Ordering → F
    → (X → X → Bool) → Type 0
OrdersBy {X = X} compares f lt = (x y : X) (o : Ordering) → FnReturnsAtPair compares f x y o
    → is_lt o ≡ lt x y

-- less than each item before it, and no item after it is less
abbrev pub IsFirstLeast : {X : Type 0} → (X → X → Bool) → List X → X → Type 0
IsFirstLeast {X = X} lt xs m = (before : List X) × (after : List X) × (xs ≡ before ++ (m ∷ after))
    × All (λ x. lt m x ≡ true) before × All (λ x. lt x m ≡ false) after

-- less than no item before it, and each item after it is less
abbrev pub IsLastGreatest : {X : Type 0} → (X → X → Bool) → List X → X → Type 0
IsLastGreatest {X = X} lt xs m = (before : List X) × (after : List X) × (xs ≡ before ++ (m ∷ after))
    × All (λ x. lt m x ≡ false) before × All (λ x. lt x m ≡ true) after

-- none of an empty list, and the first least item of another
abbrev pub LeastOf : {X : Type 0} → (X → X → Bool) → List X → Option X → Type 0
LeastOf lt xs found = MatchOption found (xs ≡ []) (IsFirstLeast lt xs)

-- none of an empty list, and the last greatest item of another
abbrev pub GreatestOf : {X : Type 0} → (X → X → Bool) → List X → Option X → Type 0
GreatestOf lt xs found = MatchOption found (xs ≡ []) (IsLastGreatest lt xs)

-- whether a later item takes an earlier one's place: a lesser one, or one that isn't less
abbrev pub beats : {X : Type 0} → Bool → (X → X → Bool) → X → X → Bool
beats true lt later earlier = lt later earlier
beats false lt later earlier = not (lt later earlier)

-- of two the second where it takes the first one's place, and the first otherwise
abbrev pub picked : {X : Type 0} → (X → X → Bool) → Option X → Option X → Option X
picked wins None second = second
picked wins (Some a) None = Some a
picked wins (Some a) (Some b) = cond (wins b a) (Some b) (Some a)

-- a closure may be called at the two, in either order, where both are there
abbrev pub AcceptsTwo : {X : Type 0} → (Bor X → Bor X → Type 0) → Option X → Option X → Type 0
AcceptsTwo {X = X} accepts first second = (earlier later : Bor X) → first ≡ Some earlier.now
    → second ≡ Some later.now → accepts earlier later × accepts later earlier

-- the first or the second
abbrev pub IsOneOf : {X : Type 0} → Option X → Option X → Option X → Type 0
IsOneOf first second found = (found ≡ first) ⊎ (found ≡ second)

-- none of an empty list, and of another an item that takes the place of each before it, and whose
-- place none after it takes
abbrev pub PickOf : {X : Type 0} → (X → X → Bool) → List X → Option X → Type 0
PickOf {X = X} wins xs found = MatchOption found (xs ≡ []) (λ m. (before : List X)
    × (after : List X) × (xs ≡ before ++ (m ∷ after)) × All (λ x. wins m x ≡ true) before
    × All (λ x. wins x m ≡ false) after)
