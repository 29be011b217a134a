-- A start that is told keeps the rule.
use Rattle.parallel_bridge.proofs.{arith, tells}
use Rattle.parallel_bridge.proofs.gate.Gate.tell.Goals as goal

pub fetch_min-requires : goal.fetch_min-requires
fetch_min-requires c =
    (c.requires.belongs.0, omega (arith, c.args.self.now.one_word), tells _ _ _ _ _ c.requires.stands)
