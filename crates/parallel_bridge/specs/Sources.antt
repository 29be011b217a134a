-- What may come of an iterator, and what a list call says of the list that it went over.
use Rattle.std.specs.Prelude.{ℕ, List, Option, Some, Result}
use Rattle.std.specs.Iterator.{Yields}
use Rattle.parallel_fault.specs.declared.fault.Trouble.{Trouble}
use Rattle.parallel_bridge.specs.Outcomes.{UnlessRefused}
use Rattle.parallel_bridge.specs.Shapes.{Shape}
use Rattle.parallel_bridge.specs.Tries.{TryAlongCut}

-- some calls lead to the item
abbrev pub MayCome : {S A : Type 0} → (S → Option A → S → Type 0) → S → A → Type 0
MayCome {S = S} {A = A} steps s x = (before : List A) × (t : S) × (u : S) × Yields steps s before t
    × steps t (Some x) u

-- The fact holds of some list that the source may give: the form of every list call's clause.
abbrev pub GivesSome : {S X : Type 0} → (S → List X → Type 0) → S → (List X → Type 0) → Type 0
GivesSome {X = X} gives source fact = (xs : List X) × gives source xs × fact xs

-- What the bridge says of every consumer: unless it was refused, the outcome goes along the shape
-- of a list that may come, by what leaves and nodes may give.
abbrev pub Driven : {S X R E : Type 0} → (S → List X → Type 0) → S → (List X → Result R E → Type 0)
    → (R → R → Result R E → Type 0) → ℕ → Result R (Trouble E) → Type 0
Driven gives source leaf node depth result = UnlessRefused result
    (λ out. GivesSome gives source (λ xs. TryAlongCut leaf node (Shape depth xs) out))

-- a consumer may be handed a list: it may work, and it takes each item that may come
abbrev pub Suits : {P C X : Type 0} → (C → Type 0) → (C → X → Type 0) → (P → X → Type 0) → P → C
    → Type 0
Suits {X = X} ready takes may parts consumer = ready consumer
    × ((x : X) → may parts x → takes consumer x)
