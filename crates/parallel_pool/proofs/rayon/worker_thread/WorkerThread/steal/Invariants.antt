-- What was tried so far took nothing.
use Rattle.parallel_pool.proofs.{◌≡◌}
use Rattle.parallel_pool.proofs.rayon.worker_thread.WorkerThread.steal.Given as goal

abbrev pub invariant-loop : goal.invariant-loop
invariant-loop g l = l.self ≡ l.fn.self
