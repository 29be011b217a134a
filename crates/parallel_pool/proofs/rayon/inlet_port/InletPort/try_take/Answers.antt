-- A take keeps the rule, and tells what the pass has seen.
use Rattle.parallel_pool.proofs.{takes, stolen}
use Rattle.parallel_pool.proofs.rayon.inlet_port.InletPort.try_take.Goals as goal

pub steal_as-requires-clause-rule : goal.steal_as-requires-clause-rule
steal_as-requires-clause-rule g c = (takes _ _ _, λ _ _ _. tt)

pub returns : goal.returns
returns g c = stolen _ _ _ _ _ _ c.self.view_is (λ h. h.0) (λ h. h) c.steal_as.ensures.rule
