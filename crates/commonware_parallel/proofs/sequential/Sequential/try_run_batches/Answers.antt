-- The batch that the closure was given is the whole one.
use Rattle.commonware_parallel.proofs.sequential.Sequential.try_run_batches.Goals as goal

pub returns-in-Ok : goal.returns-in-Ok
returns-in-Ok g c = (
  c.in_ok-batches.batches,
  (
    c.in_ok-batches.ensures.one,
    c.in_ok-batches.ensures.strategy,
    c.in_ok-batches.ensures.place,
  ),
  c.in-Ok.ensures,
)

pub returns-in-Err : goal.returns-in-Err
returns-in-Err g c = (
  c.in_ok-batches.batches,
  (
    c.in_ok-batches.ensures.one,
    c.in_ok-batches.ensures.strategy,
    c.in_ok-batches.ensures.place,
  ),
  c.in-Err.ensures,
)
