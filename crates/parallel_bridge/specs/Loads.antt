-- What each thread gets of a task, and what it comes to.
use Rattle.std.specs.Prelude.{◌≡◌, ℕ, ◌+◌, ◌-◌, ◌*◌, List, All, Option, Some, None, sum_by}
use Rattle.std.specs.List.{AllZip}
use Rattle.parallel_bridge.specs.declared.drive.loads.Load.{Load}
use Rattle.parallel_bridge.specs.declared.drive.loads.Slot.{Slot}
use Rattle.parallel_bridge.specs.declared.drive.loads.Slot.TheVariants.{Todo, Done, Empty}

-- its task, if it has one, may be split or run
abbrev pub IsReady : {T D : Type 0} → (T → Type 0) → Slot T D → Type 0
IsReady ready (Todo depth task) = ready task
IsReady ready (Done done) = Unit {0}
IsReady ready Empty = Unit {0}

abbrev pub IsReadyLoad : {T D : Type 0} → (T → Type 0) → Load T D → Type 0
IsReadyLoad ready load = IsReady ready load.left × IsReady ready load.right

abbrev pub AreReady : {T D : Type 0} → (T → Type 0) → List (Load T D) → Type 0
AreReady ready loads = All (IsReadyLoad ready) loads

-- in the place of a task stands what it came to, and all else is as it was
abbrev pub SlotCameTo : {T D : Type 0} → (ℕ → T → D → Type 0) → Slot T D → Slot T D → Type 0
SlotCameTo {D = D} ends (Todo depth task) after = (done : D) × (after ≡ Done done)
    × ends depth task done
SlotCameTo ends (Done done) after = after ≡ Done done
SlotCameTo ends Empty after = after ≡ Empty

abbrev pub LoadCameTo : {T D : Type 0} → (ℕ → T → D → Type 0) → Load T D → Load T D → Type 0
LoadCameTo ends load after = SlotCameTo ends load.left after.left
    × SlotCameTo ends load.right after.right

abbrev pub CameTo : {T D : Type 0} → (ℕ → T → D → Type 0) → List (Load T D) → List (Load T D)
    → Type 0
CameTo ends loads after = AllZip (LoadCameTo ends) loads after

abbrev pub IsDone : {T D : Type 0} → Slot T D → Type 0
IsDone {D = D} slot = (done : D) × (slot ≡ Done done)

-- both halves came to something that the seam puts together; without a seam there is nothing to do
abbrev pub Joins : {T D S : Type 0} → (S → D → D → Type 0) → Option S → Slot T D → Slot T D → Type 0
Joins {D = D} meet (Some seam) front back = (a b : D) × (front ≡ Done a) × (back ≡ Done b)
    × meet seam a b
Joins meet None front back = Unit {0}

-- what two halves came to, together; without a seam the front is all there is
abbrev pub Rejoins : {T D S : Type 0} → (S → D → D → D → Type 0) → Option S → Slot T D → Slot T D
    → Slot T D → Type 0
Rejoins {D = D} together (Some seam) front back whole = (a b c : D) × (front ≡ Done a)
    × (back ≡ Done b) × (whole ≡ Done c) × together seam a b c
Rejoins together None front back whole = whole ≡ front

-- whatever a front and a back come to can be put together, and is then what the whole came to
abbrev pub IsCutOf : {T D S : Type 0} → (ℕ → T → D → Type 0) → (S → D → D → Type 0)
    → (S → D → D → D → Type 0) → Slot T D → Slot T D → Slot T D → Option S → Type 0
IsCutOf {T = T} {D = D} ends meet together slot front back seam = (u v : Slot T D)
    → SlotCameTo ends front u → SlotCameTo ends back v → Joins meet seam u v
    × ((w : Slot T D) → Rejoins together seam u v w → SlotCameTo ends slot w)

-- a bound on how often loads are still split or handed on: a split takes one from it
abbrev pub steps_of : {T D : Type 0} → Load T D → ℕ
steps_of load = 2 * (load.threads - 1) + 1

abbrev pub steps_left : {T D : Type 0} → List (Load T D) → ℕ
steps_left loads = sum_by steps_of loads
