-- A job of one queue was taken, and nothing else was done.
use Rattle.parallel_pool.proofs.{after_first}
use Rattle.parallel_pool.proofs.rayon.worker_thread.WorkerThread.take_from.Goals as goal

pub returns : goal.returns
returns g c = after_first c.args.queue _ _ _ _ c.self.view_is
    (c.has.ensures.0 c.if-not-has.false) c.take_to_call.ensures
