-- Inline or offloaded, by the history of a key's entry.
use Rattle.std.specs.Prelude.{◌≡◌, ℕ, min, Bool, true, cond, nat_lt, Option, Some, None, List, [], ◌∷◌, unwrap_or}
use Rattle.parallel_policy.specs.declared.history.SpawnEvent.{SpawnEvent}
use Rattle.parallel_policy.specs.declared.history.SpawnEvent.TheVariants.{Chosen, Sampled}
use Rattle.parallel_policy.specs.declared.history.SpawnSample.{SpawnSample}
use Rattle.parallel_policy.specs.declared.history.SpawnSample.TheVariants.{InlineRun, Job, Overhead}
use Rattle.parallel_policy.specs.declared.execution.SpawnExecution.{SpawnExecution}
use Rattle.parallel_policy.specs.declared.execution.SpawnExecution.TheVariants.{Inline, Offload}
use Rattle.parallel_policy.specs.Estimates.{blended, estimated}
use Rattle.parallel_policy.specs.Arbitration.{Contest, contest_of, arbitrated, count_after}

-- the choices and samples since a default entry, the latest first
abbrev pub SpawnHistory : Type 0
SpawnHistory = List SpawnEvent

-- the samples of a kind, the latest first
abbrev pub spawn_samples : SpawnSample → SpawnHistory → List ℕ
spawn_samples kind [] = []
spawn_samples kind (Chosen _ ∷ older) = spawn_samples kind older
spawn_samples InlineRun (Sampled InlineRun sample ∷ older) = sample ∷ spawn_samples InlineRun older
spawn_samples InlineRun (Sampled Job _ ∷ older) = spawn_samples InlineRun older
spawn_samples InlineRun (Sampled Overhead _ ∷ older) = spawn_samples InlineRun older
spawn_samples Job (Sampled InlineRun _ ∷ older) = spawn_samples Job older
spawn_samples Job (Sampled Job sample ∷ older) = sample ∷ spawn_samples Job older
spawn_samples Job (Sampled Overhead _ ∷ older) = spawn_samples Job older
spawn_samples Overhead (Sampled InlineRun _ ∷ older) = spawn_samples Overhead older
spawn_samples Overhead (Sampled Job _ ∷ older) = spawn_samples Overhead older
spawn_samples Overhead (Sampled Overhead sample ∷ older) = sample ∷ spawn_samples Overhead older

-- what a kind takes, by its samples
abbrev pub spawn_estimate : SpawnSample → SpawnHistory → Option ℕ
spawn_estimate kind history = estimated (spawn_samples kind history)

-- the contest of the two ways, by what the job may cost its caller and what handing it off may cost
abbrev pub contest_by : ℕ → ℕ → Bool → Contest SpawnExecution
contest_by bound threshold probe = cond (nat_lt threshold bound)
    (contest_of Offload Inline threshold bound probe)
    (contest_of Inline Offload bound threshold true)

-- the contest by the overhead, the job's time on a worker and its time inline, which counts in
-- place of the former where there is one
abbrev pub spawn_contest : ℕ → ℕ → Option ℕ → ℕ → Contest SpawnExecution
spawn_contest overhead job inline budget =
    contest_by (unwrap_or inline job) (min overhead budget) (nat_lt job budget)

-- the result by the three estimates and the count; without overhead or job the job is handed off,
-- measured
abbrev pub spawn_answer : Option ℕ → Option ℕ → Option ℕ → ℕ → ℕ → SpawnExecution × Bool
spawn_answer None job inline count budget = (Offload, true)
spawn_answer (Some overhead) None inline count budget = (Offload, true)
spawn_answer (Some overhead) (Some job) inline count budget =
    arbitrated (spawn_contest overhead job inline budget) count

-- the count after that result, the greatest u32 without overhead or job
abbrev pub spawn_count_after : Option ℕ → Option ℕ → Option ℕ → ℕ → ℕ → ℕ
spawn_count_after None job inline count budget = 4294967295
spawn_count_after (Some overhead) None inline count budget = 4294967295
spawn_count_after (Some overhead) (Some job) inline count budget =
    count_after (spawn_contest overhead job inline budget) count

-- how many choices since the last that made the count 0, or the greatest u32 after one that found
-- no overhead or no job
abbrev pub spawn_count : SpawnHistory → ℕ
spawn_count [] = 0
spawn_count (Sampled _ _ ∷ older) = spawn_count older
spawn_count (Chosen budget ∷ older) =
    spawn_count_after (spawn_estimate Overhead older) (spawn_estimate Job older)
    (spawn_estimate InlineRun older) (spawn_count older) budget

-- The way that is chosen after a history, and whether it is measured. Without an overhead or a job
-- on a worker, the job is handed off and measured. Else the inline time, or the job's time on a
-- worker if there is none, is weighed against the lesser of the overhead and the budget: if it is
-- more, handing off is preferred, and running inline may be probed if the job is under the budget;
-- else running inline is preferred.
abbrev pub spawn_choice : SpawnHistory → ℕ → SpawnExecution × Bool
spawn_choice history budget =
    spawn_answer (spawn_estimate Overhead history) (spawn_estimate Job history)
    (spawn_estimate InlineRun history) (spawn_count history) budget

-- what an entry keeps: the three estimates and the count
pub record SpawnState : Type 0 where
  pub inline : Option ℕ
  pub job : Option ℕ
  pub overhead : Option ℕ
  pub count : ℕ

-- what a default entry keeps
abbrev pub fresh_spawn : SpawnState
fresh_spawn = record { inline = None; job = None; overhead = None; count = 0 }

-- an entry holds a history: it keeps the history's estimates and its count
abbrev pub HoldsSpawn : SpawnState → SpawnHistory → Type 0
HoldsSpawn entry history = (entry.inline ≡ spawn_estimate InlineRun history)
    × (entry.job ≡ spawn_estimate Job history)
    × (entry.overhead ≡ spawn_estimate Overhead history) × (entry.count ≡ spawn_count history)

-- an entry after one more sample of a kind
abbrev pub with_spawn_sample : SpawnState → SpawnSample → ℕ → SpawnState
with_spawn_sample entry InlineRun sample = record entry { inline = blended entry.inline sample }
with_spawn_sample entry Job sample = record entry { job = blended entry.job sample }
with_spawn_sample entry Overhead sample = record entry { overhead = blended entry.overhead sample }

-- the estimate of a kind that an entry keeps
abbrev pub spawn_time : SpawnState → SpawnSample → Option ℕ
spawn_time entry InlineRun = entry.inline
spawn_time entry Job = entry.job
spawn_time entry Overhead = entry.overhead
