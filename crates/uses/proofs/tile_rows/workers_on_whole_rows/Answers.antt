-- The tiles are for as many workers as the strategy took.
use Rattle.std.proofs.Common.{arith}
use Rattle.commonware_parallel.proofs.Outcomes.{told_answer, told_memory}
use Rattle.uses.proofs.tile_rows.workers_on_whole_rows.Goals as goal

pub returns-clause-some : goal.returns-clause-some
returns-clause-some g c =
    told_answer c.try_run_tiles.result _ _ c.try_run_tiles.ensures
    (λ workers run. omega (arith, run.3, run.7.planned, run.10.1))

pub returns-clause-planned : goal.returns-clause-planned
returns-clause-planned g c =
    told_answer c.try_run_tiles.result _ _ c.try_run_tiles.ensures
    (λ workers run. omega (arith, run.4, run.7.planned, run.10.1))

pub returns-clause-fault : goal.returns-clause-fault
returns-clause-fault g c = told_memory c.try_run_tiles.result _ c.try_run_tiles.ensures
