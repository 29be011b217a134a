-- Serial or parallel, by the history of a key's entry.
use Rattle.std.specs.Prelude.{◌≡◌, ℕ, ◌-◌, ◌*◌, ◌^◌, min, Bool, true, cond, not, ◌||◌, nat_le, nat_lt, Option, Some, None, List, [], ◌∷◌}
use Rattle.parallel_policy.specs.declared.history.RunEvent.{RunEvent}
use Rattle.parallel_policy.specs.declared.history.RunEvent.TheVariants.{Chosen, Sampled}
use Rattle.parallel_policy.specs.declared.execution.RunExecution.{RunExecution}
use Rattle.parallel_policy.specs.declared.execution.RunExecution.TheVariants.{Serial, Parallel}
use Rattle.parallel_policy.specs.Estimates.{blended, estimated}
use Rattle.parallel_policy.specs.Arbitration.{Contest, contest_of, arbitrated, count_after}

-- the choices and samples since a default entry, the latest first
abbrev pub RunHistory : Type 0
RunHistory = List RunEvent

-- the samples of a path, the latest first
abbrev pub run_samples : RunExecution → RunHistory → List ℕ
run_samples path [] = []
run_samples path (Chosen _ ∷ older) = run_samples path older
run_samples Serial (Sampled Serial sample ∷ older) = sample ∷ run_samples Serial older
run_samples Serial (Sampled Parallel _ ∷ older) = run_samples Serial older
run_samples Parallel (Sampled Serial _ ∷ older) = run_samples Parallel older
run_samples Parallel (Sampled Parallel sample ∷ older) = sample ∷ run_samples Parallel older

-- what a path takes, by its samples
abbrev pub run_estimate : RunExecution → RunHistory → Option ℕ
run_estimate path history = estimated (run_samples path history)

-- what a serial run may take: the parallel time on each thread in turn, stopping at the greatest
-- u64
abbrev pub projection : ℕ → ℕ → ℕ
projection parallel parallelism = min (parallel * parallelism) (2 ^ 64 - 1)

-- whether a serial run may be tried: its projection is under ten milliseconds
abbrev pub may_run_serially : ℕ → ℕ → Bool
may_run_serially parallel parallelism = nat_lt (projection parallel parallelism) 10000000

-- whether the parallel path is preferred: a serial run may not be tried, or took ten milliseconds,
-- or more than the parallel one
abbrev pub prefers_parallel : ℕ → ℕ → ℕ → Bool
prefers_parallel parallel serial parallelism = not (may_run_serially parallel parallelism)
    || nat_le 10000000 serial || nat_lt parallel serial

-- the contest of the two paths; without a serial estimate the parallel path is preferred, and loses
-- no time
abbrev pub run_contest : ℕ → Option ℕ → ℕ → Contest RunExecution
run_contest parallel None parallelism =
    contest_of Parallel Serial parallel parallel (may_run_serially parallel parallelism)
run_contest parallel (Some serial) parallelism = cond (prefers_parallel parallel serial parallelism)
    (contest_of Parallel Serial parallel serial (may_run_serially parallel parallelism))
    (contest_of Serial Parallel serial parallel true)

-- the result by the two estimates and the count; without a parallel estimate the parallel path,
-- measured
abbrev pub run_answer : Option ℕ → Option ℕ → ℕ → ℕ → RunExecution × Bool
run_answer None serial count parallelism = (Parallel, true)
run_answer (Some parallel) serial count parallelism =
    arbitrated (run_contest parallel serial parallelism) count

-- the count after that result, the greatest u32 without a parallel estimate
abbrev pub run_count_after : Option ℕ → Option ℕ → ℕ → ℕ → ℕ
run_count_after None serial count parallelism = 4294967295
run_count_after (Some parallel) serial count parallelism =
    count_after (run_contest parallel serial parallelism) count

-- how many choices since the last that made the count 0, or the greatest u32 after one that found
-- no parallel estimate
abbrev pub run_count : RunHistory → ℕ
run_count [] = 0
run_count (Sampled _ _ ∷ older) = run_count older
run_count (Chosen parallelism ∷ older) = run_count_after (run_estimate Parallel older)
    (run_estimate Serial older) (run_count older) parallelism

-- The path that is chosen after a history, and whether it is measured. With the estimates p of the
-- parallel samples and s of the serial ones: without p, Parallel and measured. Without s, or if the
-- projection or s is 10 ms or more, or if p < s, Parallel is preferred, and the serial path may be
-- probed if the projection is under 10 ms. Else Serial is preferred, and the parallel path may be
-- probed.
abbrev pub run_choice : RunHistory → ℕ → RunExecution × Bool
run_choice history parallelism = run_answer (run_estimate Parallel history)
    (run_estimate Serial history) (run_count history) parallelism

-- what an entry keeps: the two estimates and the count
pub record RunState : Type 0 where
  pub serial : Option ℕ
  pub parallel : Option ℕ
  pub count : ℕ

-- what a default entry keeps
abbrev pub fresh_run : RunState
fresh_run = record { serial = None; parallel = None; count = 0 }

-- an entry holds a history: it keeps the history's estimates and its count
abbrev pub HoldsRun : RunState → RunHistory → Type 0
HoldsRun entry history = (entry.serial ≡ run_estimate Serial history)
    × (entry.parallel ≡ run_estimate Parallel history) × (entry.count ≡ run_count history)

-- an entry after one more sample of a path
abbrev pub with_sample : RunState → RunExecution → ℕ → RunState
with_sample entry Serial sample = record entry { serial = blended entry.serial sample }
with_sample entry Parallel sample = record entry { parallel = blended entry.parallel sample }

-- the estimate of a path that an entry keeps
abbrev pub run_time : RunState → RunExecution → Option ℕ
run_time entry Serial = entry.serial
run_time entry Parallel = entry.parallel
