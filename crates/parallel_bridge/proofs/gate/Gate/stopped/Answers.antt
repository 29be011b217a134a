-- A look keeps the rule.
use Rattle.parallel_bridge.proofs.{arith, looks}
use Rattle.parallel_bridge.proofs.gate.Gate.stopped.Goals as goal

pub load-requires : goal.load-requires
load-requires c = (c.requires.belongs.0, omega (arith, c.args.self.now.one_word), looks _ _ _ _)
