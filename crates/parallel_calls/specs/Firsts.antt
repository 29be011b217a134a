-- The first item of a list at which something holds.
use Rattle.std.specs.Prelude.{ℕ, Bool, true, false, List, [], ◌∷◌, All, Option, Some, None, MatchOption, Result, Ok, Err, ⊤}
use Rattle.std.specs.Option.{option_or}
use Rattle.parallel_bridge.specs.Firsts.{IsFirst}

-- the error of the first item that stops, or none, and then no item stops
pub record StopsAt {X E : Type 0} (allowed : X → Result ⊤ E → Type 0) (xs : List X)
    (stop : Option E) : Type 0 where
  pub stops : MatchOption stop (All (λ x. allowed x (Ok tt)) xs) (λ e. (x : X) × (place : ℕ)
      × IsFirst (λ y. allowed y (Err e)) (λ y. allowed y (Ok tt)) xs x place)

-- an item that may satisfy, each before which may fail; or none, and then each may fail
abbrev pub FirstOf : {X : Type 0} → (X → Bool → Type 0) → List X → Option X → Type 0
FirstOf verdict xs found = MatchOption found (All (λ x. verdict x false) xs)
    (λ x. (place : ℕ) × IsFirst (λ y. verdict y true) (λ y. verdict y false) xs x place)

-- the place of such an item, by the number of those before it
abbrev pub FirstPlaceOf : {X : Type 0} → (X → Bool → Type 0) → List X → Option ℕ → Type 0
FirstPlaceOf {X = X} verdict xs found = MatchOption found (All (λ x. verdict x false) xs)
    (λ place. (x : X) × IsFirst (λ y. verdict y true) (λ y. verdict y false) xs x place)

-- a value that an item may give, each before which may give none; or none, and then each may give
-- none
abbrev pub FirstValueOf : {X Y : Type 0} → (X → Option Y → Type 0) → List X → Option Y → Type 0
FirstValueOf {X = X} gives xs found = MatchOption found (All (λ x. gives x None) xs)
    (λ y. (x : X) × (place : ℕ) × IsFirst (λ z. gives z (Some y)) (λ z. gives z None) xs x place)

-- the first value that a function gives of the items
abbrev pub find_map : {X Y : Type 0} → (X → Option Y) → List X → Option Y
find_map f [] = None
find_map f (x ∷ xs) = option_or (f x) (find_map f xs)
