-- A push keeps the rule, and tells what the pass has seen.
use Rattle.parallel_pool.proofs.{pushes, pushed}
use Rattle.parallel_pool.proofs.rayon.inlet_port.InletPort.push.Goals as goal

pub push_as-requires-clause-rule : goal.push_as-requires-clause-rule
push_as-requires-clause-rule g c = pushes _ _ _

pub returns : goal.returns
returns g c = pushed _ _ _ _ _ c.self.view_is c.push_as.ensures.rule
