-- One seat for two keeps the rule.
use Rattle.parallel_bridge.proofs.{arith, joins}
use Rattle.parallel_bridge.proofs.gate.Gate.join.Goals as goal

pub join_seat-requires : goal.join_seat-requires
join_seat-requires c = (
  c.requires.seat.0,
  c.requires.other.0,
  c.requires.other.1,
  omega (arith, c.args.self.now.one_word),
  joins _ _ _ _ _,
)
