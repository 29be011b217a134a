-- what a job that has ended is recorded as
use Rattle.std.specs.Prelude.{ℕ, ◌-◌}
use Rattle.parallel_policy.specs.declared.execution.SpawnExecution.{SpawnExecution}
use Rattle.parallel_policy.specs.declared.execution.SpawnExecution.TheVariants.{Inline, Offload}
use Rattle.commonware_parallel.specs.declared.meter.Recorded.{Recorded}
use Rattle.commonware_parallel.specs.declared.meter.Recorded.TheVariants.{Inline as InlineOf, Offloaded as OffloadedOf}

-- By the clock's readings when it was chosen, began and stopped: its own time; of a job on a worker
-- also the rest of the time since it was chosen. A clock that went back counts as no time.
abbrev pub recorded_as : SpawnExecution → ℕ → ℕ → ℕ → Recorded
recorded_as Inline chosen begun stopped = InlineOf (stopped - begun)
recorded_as Offload chosen begun stopped = OffloadedOf (stopped - begun)
    ((stopped - chosen) - (stopped - begun))
