-- a job that was spawned: how it began, what it may return, and what it waits for
use Rattle.std.specs.Prelude.{◌≡◌, ◌⊎◌, ℕ, Bool, true, false, not}
use Rattle.std.specs.Arc.{arc_value}
use Rattle.parallel_fault.specs.declared.fault.Fault.{Fault}
use Rattle.parallel_fault.specs.declared.fault.Fault.TheVariants.{Memory, Worker}
use Rattle.commonware_parallel.specs.declared.spawned.Spawned.{Spawned}
use Rattle.commonware_parallel.specs.declared.spawned.Stage.{Stage}
use Rattle.commonware_parallel.specs.declared.spawned.Stage.TheVariants.{Ready, Waiting, Unstarted, Taken}
use Rattle.parallel_bridge.specs.declared.path.Path.{Path}
use Rattle.parallel_bridge.specs.declared.path.Path.TheVariants.{Serial, Parallel}
use Rattle.commonware_parallel.specs.declared.call.Pick.{Pick}
use Rattle.commonware_parallel.specs.Calls.{AtSomePath}

-- whether the result is here
abbrev pub is_ready_at : {S F T : Type 0} → Stage S F T → Bool
is_ready_at (Ready answer) = true
is_ready_at (Waiting worker ending) = false
is_ready_at Unstarted = false
is_ready_at Taken = false

-- whether there is no worker, and won't be one
abbrev pub is_unstarted_at : {S F T : Type 0} → Stage S F T → Bool
is_unstarted_at (Ready answer) = false
is_unstarted_at (Waiting worker ending) = false
is_unstarted_at Unstarted = true
is_unstarted_at Taken = false

-- whether the result was taken
abbrev pub is_taken_at : {S F T : Type 0} → Stage S F T → Bool
is_taken_at (Ready answer) = false
is_taken_at (Waiting worker ending) = false
is_taken_at Unstarted = false
is_taken_at Taken = true

-- the result that is here, or one that the job allows on the strategy that went with it to a
-- worker; else none
abbrev pub gives_at : {S F T : Type 0} → (F → S → T → Type 0) → Stage S F T → T → Type 0
gives_at may_answer (Ready answer) x = x ≡ answer
gives_at may_answer (Waiting worker ending) x =
    may_answer worker.promise.job.value worker.promise.strategy.value x
gives_at may_answer Unstarted x = ⊥
gives_at may_answer Taken x = ⊥

-- the source at which a pending poll leaves its waker, where never is one that doesn't fire
abbrev pub needs_at : {S F T : Type 0} → Stage S F T → ℕ → ℕ → Type 0
needs_at (Ready answer) never source = ⊥
needs_at (Waiting worker ending) never source = source ≡ (arc_value ending).ended.id
needs_at Unstarted never source = source ≡ never
needs_at Taken never source = source ≡ never

-- how far a job is
abbrev pub stage_of : {R S F T : Type 0} → Spawned R S F T → Stage S F T
stage_of spawned = spawned.stage

-- whether the next poll gives the result
abbrev pub is_ready_now : {R S F T : Type 0} → Spawned R S F T → Bool
is_ready_now spawned = is_ready_at spawned.stage

-- whether no worker was started for it, so that it stays pending
abbrev pub is_without_worker : {R S F T : Type 0} → Spawned R S F T → Bool
is_without_worker spawned = is_unstarted_at spawned.stage

-- whether its result was taken
abbrev pub is_taken : {R S F T : Type 0} → Spawned R S F T → Bool
is_taken spawned = is_taken_at spawned.stage

-- what it may return, where may_answer says it of its job on a strategy
abbrev pub gives_answer : {R S F T : Type 0} → (F → S → T → Type 0) → Spawned R S F T → T → Type 0
gives_answer may_answer spawned x = gives_at may_answer spawned.stage x

-- what it waits for
abbrev pub needs_of : {R S F T : Type 0} → Spawned R S F T → ℕ → Type 0
needs_of spawned source = needs_at spawned.stage spawned.never.id source

-- serially the result is here; in parallel it isn't, and there is a worker exactly where workers
-- are started
abbrev pub BeginsAs : {R S F T : Type 0} → Bool → Path → Spawned R S F T → Type 0
BeginsAs starts Serial spawned = (is_ready_now spawned ≡ true) × (is_taken spawned ≡ false)
    × (is_without_worker spawned ≡ false)
BeginsAs starts Parallel spawned = (is_ready_now spawned ≡ false) × (is_taken spawned ≡ false)
    × (is_without_worker spawned ≡ not starts)

-- a refusal after the choice: for memory, or of a worker's start where one was to be started
abbrev pub FailsToBegin : Bool → Path → Fault → Type 0
FailsToBegin starts path fault = (fault ≡ Memory)
    ⊎ ((fault ≡ Worker) × (starts ≡ true) × (path ≡ Parallel))

-- a refusal of the choice, or one after it
abbrev pub FailsToSpawn : (Pick → Type 0) → (Fault → Type 0) → Bool → Fault → Type 0
FailsToSpawn takes refuses starts fault = refuses fault
    ⊎ AtSomePath takes (λ path. FailsToBegin starts path fault)
