-- Closures that answer by a function, and what they may be called at.
use Rattle.std.specs.Prelude.{◌≡◌, List, [], ◌∷◌, Result, Ok, Err}
use Rattle.std.specs.Borrow.{Bor}

-- each answer that is allowed is the function's
abbrev pub GoesBy : {X Y : Type 0} → (X → Y → Type 0) → (X → Y) → Type 0
GoesBy {X = X} {Y = Y} allowed f = (x : X) (y : Y) → allowed x y → y ≡ f x

-- the same of two arguments
abbrev pub GoesByPair : {X Y Z : Type 0} → (X → Y → Z → Type 0) → (X → Y → Z) → Type 0
GoesByPair {X = X} {Y = Y} {Z = Z} allowed f =
    (x : X) (y : Y) (z : Z) → allowed x y z → z ≡ f x y

-- a closure may be called at a borrow of the item
abbrev pub AcceptsAt : {X : Type 0} → (Bor X → Type 0) → X → Type 0
AcceptsAt {X = X} accepts x = (lent : Bor X) → lent.now ≡ x → accepts lent

-- a first value before those of the other items, or the first error
abbrev pub before : {Y E : Type 0} → Result Y E → Result (List Y) E → Result (List Y) E
before (Ok y) (Ok ys) = Ok (y ∷ ys)
before (Ok y) (Err e) = Err e
before (Err e) others = Err e

-- what a function that may fail gives of each item, or its first error
abbrev pub try_map : {X Y E : Type 0} → (X → Result Y E) → List X → Result (List Y) E
try_map f [] = Ok []
try_map f (x ∷ xs) = before (f x) (try_map f xs)
