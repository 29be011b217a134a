-- A pop keeps the rule, and tells what the owner has seen.
use Rattle.parallel_pool.proofs.{pops, popped}
use Rattle.parallel_pool.proofs.rayon.job_deque.JobDeque.pop_as.Goals as goal

pub pop_as-requires-clause-lifo : goal.pop_as-requires-clause-lifo
pop_as-requires-clause-lifo g c = λ _. pops _ _ _

pub returns : goal.returns
returns g c = popped _ _ _ _ _ _ c.self.view_is (λ h. h.0) c.pop_as.ensures.rule
