-- The number of workers for which queues of jobs are.
use Rattle.std.specs.Prelude.{ℕ, vec_len}
use Rattle.parallel_pool.specs.declared.rayon.job_queues.JobQueues.{JobQueues}

-- for how many workers the queues are
abbrev pub worker_count : {T : Type 0} → JobQueues T → ℕ
worker_count queues = vec_len queues.deques
