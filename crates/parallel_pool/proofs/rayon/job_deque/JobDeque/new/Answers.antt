-- A queue to which nothing was pushed keeps the rule.
use Rattle.parallel_pool.proofs.{job_opens}
use Rattle.parallel_pool.proofs.rayon.job_deque.JobDeque.new.Goals as goal

pub lifo_as-requires : goal.lifo_as-requires
lifo_as-requires g c = job_opens
