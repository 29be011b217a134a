-- What is said of the slots in which items wait for their calls.
use Rattle.std.specs.Prelude.{◌≡◌, ℕ, ◌<◌, List, length, slice_index_or, Option, Some, None}
use denote.Param.Members.{Shared}
use Rattle.std.specs.Fn.{FnReturns}
use Rattle.parallel_pool.specs.declared.rayon.in_row.Place.{Place}

-- the slot of an item before its call
abbrev pub waits : {X T : Type 0} → X → Place X T
waits x = record { item = Some x; answer = None }

-- the result in a slot, where there is one
abbrev pub answer_of : {X T : Type 0} → Place X T → Option T
answer_of p = p.answer

module _ {F X T : Type 0} (g : Shared F (X × Unit {0}) T) (f : F) where
  -- f may be called with the item that waits there
  abbrev pub AcceptsPlace : Place X T → Type 0
  AcceptsPlace p = (x : X) → p.item ≡ Some x → g.pre f (x, tt)

  -- the item that waited there has the result of a call of f
  abbrev pub AnswersPlace : Place X T → Place X T → Type 0
  AnswersPlace old new =
      (x : X) → old.item ≡ Some x → (t : T) × (new.answer ≡ Some t) × FnReturns g f (x, tt) t

  -- f may be called with each item that waits
  abbrev pub AcceptsPlaces : List (Place X T) → Type 0
  AcceptsPlaces ps = (i : ℕ) (p : Place X T) → i < length ps → p ≡ slice_index_or ps i p
      → AcceptsPlace p

  -- each item that waited has its result
  pub record AnswersPlaces (olds news : List (Place X T)) : Type 0 where
    pub each : (i : ℕ) (p : Place X T) → i < length olds
        → AnswersPlace (slice_index_or olds i p) (slice_index_or news i p)
