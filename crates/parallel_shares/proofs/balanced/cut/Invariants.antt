-- The ranges so far are the first of the cut.
use Rattle.parallel_shares.proofs.{IsCutSoFar}
use Rattle.parallel_shares.proofs.balanced.cut.Given as goal

abbrev pub invariant-loop-index : goal.invariant-loop-index
invariant-loop-index l = IsCutSoFar l.shorter l.longer_ranges l.index l.ranges.items l.start
