-- A take keeps the rule, and tells what the pass has seen.
use Rattle.parallel_pool.proofs.{takes, stolen}
use Rattle.parallel_pool.proofs.rayon.thief_port.ThiefPort.try_take.Goals as goal

pub steal_as-requires-clause-takes : goal.steal_as-requires-clause-takes
steal_as-requires-clause-takes g c = takes _ _ _

pub returns : goal.returns
returns g c = stolen _ _ _ _ _ _ c.self.view_is (λ h. h.0) (λ h. h.0) c.steal_as.ensures.rule
