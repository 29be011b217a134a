-- A seat cut off keeps the rule.
use Rattle.parallel_bridge.proofs.{arith, seats}
use Rattle.parallel_bridge.proofs.gate.Gate.seat.Goals as goal

pub split_seat-requires : goal.split_seat-requires
split_seat-requires c = (
  c.requires.belongs.0,
  omega (arith, c.args.self.now.one_word),
  seats _ _ _ c.requires.left c.requires.silent,
)
