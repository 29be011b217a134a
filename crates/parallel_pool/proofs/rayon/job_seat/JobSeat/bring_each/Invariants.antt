-- The jobs so far were pushed, one to each worker, and the rest are left.
use Rattle.parallel_pool.proofs.{◌≡◌, List, ◌++◌, length, PushesFrom}
use Rattle.parallel_pool.proofs.rayon.job_seat.JobSeat.bring_each.Given as goal

abbrev pub invariant-loop-worker : goal.invariant-loop-worker
invariant-loop-worker g l =
    (done : List _) × (l.fn.jobs.items ≡ done ++ l.jobs.items) × (length done ≡ l.worker)
    × (length l.self.broadcasts ≡ length l.fn.self.broadcasts) × PushesFrom 0 done l.fn.self l.self
