-- What a list is reduced to by an operation of two of its items.
use Rattle.std.specs.Prelude.{◌≡◌, List, [], ◌∷◌, ◌++◌, Option, Some, None, MatchOption, fold}

-- one item alone, or what the operation may give of reductions of a front and of the back after it,
-- left before right
pub data Reduces {X : Type 0} (op : X → X → X → Type 0) : List X → X → Type 0 where
  of_one : {xs : List X} {x : X} → xs ≡ x ∷ [] → Reduces op xs x
  of_two : {xs ys zs : List X} {p q r : X} → zs ≡ xs ++ ys → Reduces op xs p → Reduces op ys q
      → op p q r → Reduces op zs r

-- none of an empty list, and a reduction of another
abbrev pub ReductionOf : {X : Type 0} → (X → X → X → Type 0) → List X → Option X → Type 0
ReductionOf op xs found = MatchOption found (xs ≡ []) (Reduces op xs)

-- what the operation may give of two, where there are two, and otherwise the one that is there
abbrev pub ReducedTwo : {X : Type 0} → (X → X → X → Type 0) → Option X → Option X → Option X
    → Type 0
ReducedTwo op None second r = r ≡ second
ReducedTwo op (Some a) None r = r ≡ Some a
ReducedTwo {X = X} op (Some a) (Some b) r = (v : X) × op a b v × (r ≡ Some v)

-- the items put together by a function, from the left
abbrev pub reduced_by : {X : Type 0} → (X → X → X) → List X → Option X
reduced_by g [] = None
reduced_by g (x ∷ xs) = Some (fold g x xs)

-- the operation is the function, which doesn't mind where brackets stand
pub record IsAssociative {X : Type 0} (op : X → X → X → Type 0) (g : X → X → X) : Type 0 where
  pub goes : (a b r : X) → op a b r → r ≡ g a b
  pub assoc : (a b c : X) → g (g a b) c ≡ g a (g b c)
