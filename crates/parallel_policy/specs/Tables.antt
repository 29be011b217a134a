-- A policy's entries, by their keys.
use Rattle.std.specs.Prelude.{◌≡◌, ◌⊎◌, ℕ, Bool, false, Option, unwrap_or, IsSome, ◌∷◌}
use Rattle.std.specs.HashMap.{get}
use Rattle.parallel_policy.specs.declared.execution.RunExecution.{RunExecution}
use Rattle.parallel_policy.specs.declared.history.RunEvent.TheVariants.{Chosen, Sampled}
use Rattle.parallel_policy.specs.declared.key.Key.{Key}
use Rattle.parallel_policy.specs.declared.table.Table.{Table}
use Rattle.parallel_policy.specs.Keys.{same_key}
use Rattle.parallel_policy.specs.Runs.{RunHistory, RunState, HoldsRun, fresh_run, run_choice}
use Rattle.parallel_policy.specs.Spawns.{SpawnHistory, SpawnState, HoldsSpawn, fresh_spawn}

-- the entry of runs that a table has at a key, if it has one
abbrev pub run_of : Table → Key → Option RunState
run_of table key = get same_key table.runs key

-- the entry of spawned jobs that a table has at a key, if it has one
abbrev pub spawn_of : Table → Key → Option SpawnState
spawn_of table key = get same_key table.spawns key

-- the entry of runs at a key holds a history; a table without one holds the empty history, as with
-- a default entry
abbrev pub HoldsRunAt : Table → Key → RunHistory → Type 0
HoldsRunAt table key history = HoldsRun (unwrap_or (run_of table key) fresh_run) history

-- the entry of spawned jobs at a key holds a history, likewise
abbrev pub HoldsSpawnAt : Table → Key → SpawnHistory → Type 0
HoldsSpawnAt table key history = HoldsSpawn (unwrap_or (spawn_of table key) fresh_spawn) history

-- two tables have the same entries of runs
abbrev pub HasSameRuns : Table → Table → Type 0
HasSameRuns old new = (key : Key) → run_of new key ≡ run_of old key

-- two tables have the same entries of spawned jobs
abbrev pub HasSameSpawns : Table → Table → Type 0
HasSameSpawns old new = (key : Key) → spawn_of new key ≡ spawn_of old key

-- two tables have the same entries of runs at every key that differs from this one
abbrev pub HasOtherRuns : Table → Table → Key → Type 0
HasOtherRuns old new key = (other : Key) → same_key key other ≡ false
    → run_of new other ≡ run_of old other

-- two tables have the same entries of spawned jobs at every key that differs from this one
abbrev pub HasOtherSpawns : Table → Table → Key → Type 0
HasOtherSpawns old new key = (other : Key) → same_key key other ≡ false
    → spawn_of new other ≡ spawn_of old other

-- What one choice does to a table: it returns `run_choice` of each history that the key's entry
-- holds, that history is longer by the choice, and no other entry changes.
pub record ChoosesRun (old : Table) (key : Key) (parallelism : ℕ) (answer : RunExecution × Bool)
    (new : Table) : Type 0 where
  pub answers : (history : RunHistory) → HoldsRunAt old key history
      → answer ≡ run_choice history parallelism
  pub holds : (history : RunHistory) → HoldsRunAt old key history
      → HoldsRunAt new key (Chosen parallelism ∷ history)
  pub entry : IsSome (run_of new key)
  pub others : HasOtherRuns old new key
  pub spawns : HasSameSpawns old new

-- the history that the key's entry of runs holds is longer by the sample
abbrev pub AddsSample : Table → Key → RunExecution → ℕ → Table → Type 0
AddsSample old key execution sample new = (history : RunHistory) → HoldsRunAt old key history
    → HoldsRunAt new key (Sampled execution sample ∷ history)

-- a record carried a table on: the history that the key's entry holds is longer by the sample, but
-- where a new entry was refused; no other entry changed
pub record RecordsRun (old : Table) (key : Key) (execution : RunExecution) (sample : ℕ)
    (new : Table) : Type 0 where
  pub known : IsSome (run_of old key) → AddsSample old key execution sample new
  pub unknown : AddsSample old key execution sample new ⊎ HasSameRuns old new
  pub others : HasOtherRuns old new key
  pub spawns : HasSameSpawns old new

-- a choice was refused: the key has no entry, and the table is as before
pub record RefusesRun (old : Table) (key : Key) (new : Table) : Type 0 where
  pub unknown : ¬ (IsSome (run_of old key))
  pub runs : HasSameRuns old new
  pub spawns : HasSameSpawns old new
