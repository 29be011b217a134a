-- There is a thief for each deque so far.
use Rattle.parallel_pool.proofs.{◌≡◌, vec_len}
use Rattle.parallel_pool.proofs.rayon.job_queues.thieves.Given as goal

abbrev pub invariant-loop-place : goal.invariant-loop-place
invariant-loop-place g l = vec_len l.all ≡ l.place
