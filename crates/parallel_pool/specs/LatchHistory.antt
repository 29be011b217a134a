-- The history of a core latch, what a seat has seen of it, and what a call says of both.
use Rattle.std.specs.Prelude.{◌≡◌, ℕ, ◌≤◌, ◌==◌, cond, List, [], ◌∷◌, ◌++◌, length}
use mathlib.Core.Option.{some}
use lib.ListN.{get_elem?}
use Rattle.parallel_pool.specs.declared.latch.history.Act.{Act}
use Rattle.parallel_pool.specs.declared.latch.history.Call.{Call}
use Rattle.parallel_pool.specs.declared.latch.history.View.{View}
use Rattle.parallel_pool.specs.Histories.{Begins, Longer}
use Rattle.parallel_pool.specs.LatchMoves.{Phase, word_of, phase_after, latched}

-- the call of a seat
abbrev pub call : ℕ → Act → Call
call by act = record { by = by; act = act }

-- what a seat knows that has seen these calls, of which these are its own
abbrev pub view : List Call → List Act → View
view seen own = record { seen = seen; own = own; heard = [] }

-- a seat that has seen no call
abbrev pub newcomer : View
newcomer = view [] []

-- what a new seat knows that tells what another has seen
abbrev pub telling : View → View
telling v = view v.seen []

-- what a seat knows while it is told what another has seen
abbrev pub hearing : View → View → View
hearing v w = record { seen = v.seen; own = v.own; heard = w.seen }

-- the calls of one seat in a history
abbrev pub acts_of : ℕ → List Call → List Act
acts_of by [] = []
acts_of by (c ∷ cs) = cond (c.by == by) (c.act ∷ acts_of by cs) (acts_of by cs)

-- a seat has seen a beginning of the history, as has whom it hears, and its own acts are all that
-- the history has of it
abbrev pub FitsLatch : List Call → ℕ → View → Type 0
FitsLatch log by v = Begins log v.seen × Begins log v.heard × (acts_of by log ≡ v.own)

-- there is one history, whose phase is in the word: it fits each seat, and has the calls of no
-- others
abbrev pub IsHistoryOf : List ℕ → List View → Type 0
IsHistoryOf words views =
    (log : List Call)
    × (words ≡ word_of (phase_after log) ∷ [])
    × ((by : ℕ) (v : View) → get_elem? views by ≡ some v → FitsLatch log by v)
    × ((by : ℕ) → length views ≤ by → acts_of by log ≡ [])

-- one call of a seat: the history now seen is what came before it, which begins with all that the
-- seat had seen, and then the call; of the seat it has just this call more
pub record Makes (act : Act) (before : List Call) (by : ℕ) (old new : View) : Type 0 where
  pub begins : Begins before old.seen
  pub ends : new.seen ≡ before ++ call by act ∷ []
  pub own : new.own ≡ old.own ++ act ∷ []
  pub once : acts_of by new.seen ≡ new.own

-- A seat made one call. What it has seen now is a history that begins with all that it had seen
-- before (begins) and ends with the call (ends), the only one of its own that is new (own, once);
-- and `said` holds of the phase that the call found. So get_sleepy says whether that phase was
-- unset, fall_asleep whether it was sleepy, set whether it was sleeping, probe whether it was
-- latched.
abbrev pub Called : Act → (Phase → Type 0) → View → View → Type 0
Called act said old new = (before : List Call) × (by : ℕ) × Makes act before by old new
    × said (phase_after before)

-- a seat has learnt what another had seen, and did nothing else
abbrev pub Learns : View → View → View → Type 0
Learns old other new = Longer old.seen other.seen new.seen × (new.own ≡ old.own)

-- a seat has seen or made the latch set
abbrev pub HasSeenSet : View → Type 0
HasSeenSet v = phase_after v.seen ≡ latched
