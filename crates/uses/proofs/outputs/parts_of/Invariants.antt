-- The ranges that are left cut what is left of the list.
use Rattle.std.proofs.Common.{length}
use Rattle.uses.proofs.Parts.{CutsRest}
use Rattle.uses.proofs.outputs.parts_of.Given as goal

abbrev pub invariant-loop-range : goal.invariant-loop-range
invariant-loop-range l = CutsRest l.ranges l.range-index (length l.rest)
