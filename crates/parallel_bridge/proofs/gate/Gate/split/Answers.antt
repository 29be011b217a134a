-- Two seats for one keep the rule.
use Rattle.parallel_bridge.proofs.{arith, splits}
use Rattle.parallel_bridge.proofs.gate.Gate.split.Goals as goal

pub split_seat-requires : goal.split_seat-requires
split_seat-requires c =
    (c.requires.belongs.0, omega (arith, c.args.self.now.one_word), splits _ _ _ c.requires.two)
