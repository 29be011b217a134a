-- There is an inlet for each turn.
use Rattle.parallel_pool.proofs.{◌≡◌, vec_len}
use Rattle.parallel_pool.proofs.rayon.job_queues.open_inlets.Given as goal

abbrev pub invariant-loop : goal.invariant-loop
invariant-loop g l = vec_len l.all ≡ l.counter
