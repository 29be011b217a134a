-- Lists whose results are written into windows.
use Rattle.std.specs.Prelude.{◌≡◌, ℕ, List, [], ◌++◌, length, Result, Ok, Err, IfOk}
use Rattle.std.specs.Vec.Ownership.{FitsInBlock}
use denote.RattleType.{RattleType}
use Rattle.parallel_fault.specs.declared.fault.Trouble.{Trouble}
use Rattle.parallel_bridge.specs.Sources.{Driven}
use Rattle.parallel_bridge.specs.Tries.{OnlyOk}
use Rattle.parallel_bridge.specs.Windows.{View}

-- it begins where the other one does, and has as many slots
abbrev pub SamePlaces : {T : Type 0} → View T → View T → Type 0
SamePlaces old new = (new.start ≡ old.start) × (new.room ≡ old.room)

-- each slot has an item
abbrev pub IsFull : {T : Type 0} → View T → Type 0
IsFull window = (window.before ≡ 0) × (length window.items ≡ window.room)

-- no slot has one
abbrev pub IsRoom : {T : Type 0} → View T → Type 0
IsRoom window = (window.before ≡ 0) × (window.items ≡ [])

-- what was written, or the trouble
abbrev pub written : {T E : Type 0} → View T → Result (Unit {0}) (Trouble E)
    → Result (List T) (Trouble E)
written window (Ok done) = Ok window.items
written window (Err trouble) = Err trouble

-- the values so far, or the error
abbrev pub kept : {T E : Type 0} → Result (Unit {0}) E → List T → Result (List T) E
kept (Ok done) ys = Ok ys
kept (Err e) ys = Err e

-- the results for all items, from some state to some state, or the error of one of them
abbrev pub Answered : {X S T E : Type 0} → (List X → S → List T → Type 0) → (List X → E → Type 0)
    → List X → Result (List T) E → Type 0
Answered {S = S} so_far fails xs (Ok ys) = (state : S) × so_far xs state ys
Answered so_far fails xs (Err e) = fails xs e

-- the results of two parts one after another
abbrev pub OneAfterAnother : {T E : Type 0} → List T → List T → Result (List T) E → Type 0
OneAfterAnother a b out = OnlyOk (λ c. c ≡ a ++ b) out

-- there is a slot for each result to a list, and each item that may come is taken
abbrev pub Fillable : {P X T : Type 0} → RattleType → (P → ℕ) → (P → X → Type 0) → (X → Type 0) → P
    → View T → Type 0
Fillable {X = X} R count may takes parts room = IsRoom room × (room.room ≡ count parts)
    × FitsInBlock R room.room × ((x : X) → may parts x → takes x)

-- the slots are those of the room; unless there is trouble they are full, and the results go along
-- the shape of the list
abbrev pub Filled : {P X T E : Type 0} → (P → List X → Type 0) → P
    → (List X → Result (List T) E → Type 0) → ℕ → View T → View T → Result (Unit {0}) (Trouble E)
    → Type 0
Filled gives parts leaf depth room window answer = SamePlaces room window
    × IfOk answer (λ _. IsFull window)
    × Driven gives parts leaf OneAfterAnother depth (written window answer)
