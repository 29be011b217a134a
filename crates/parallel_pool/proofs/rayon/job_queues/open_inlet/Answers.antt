-- A queue to which nothing was pushed keeps the rule.
use Rattle.parallel_pool.proofs.{job_opens}
use Rattle.parallel_pool.proofs.rayon.job_queues.open_inlet.Goals as goal

pub new_as-requires : goal.new_as-requires
new_as-requires g c = job_opens
