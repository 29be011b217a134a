-- The batch that the closure was given is the whole one.
use Rattle.commonware_parallel.proofs.{rules}
use Rattle.commonware_parallel.proofs.sequential.Sequential.run_batches.Goals as goal

pub returns-clause-answers : goal.returns-clause-answers
returns-clause-answers g c = (
  c.in_ok-batches.batches,
  (
    c.in_ok-batches.ensures.one,
    c.in_ok-batches.ensures.strategy,
    c.in_ok-batches.ensures.place,
  ),
  search rules,
)
