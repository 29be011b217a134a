-- A job of its own deque was taken, and nothing else was done.
use Rattle.parallel_pool.proofs.{after_pop}
use Rattle.parallel_pool.proofs.rayon.worker_thread.WorkerThread.pop.Goals as goal

pub returns : goal.returns
returns g c = after_pop _ _ _ _ c.self.view_is c.pop_to_call.ensures
