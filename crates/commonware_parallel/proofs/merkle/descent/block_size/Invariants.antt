-- The size is a block's, and grows up to the share.
use Rattle.commonware_parallel.proofs.{◌-◌, ◌<◌, IsBlockSize}
use Rattle.commonware_parallel.proofs.merkle.descent.block_size.Given as goal

abbrev pub invariant-loop-size : goal.invariant-loop-size
invariant-loop-size l = IsBlockSize l.size × (0 < l.size)

abbrev pub decreases-loop-size : goal.decreases-loop-size
decreases-loop-size l = l.share - l.size
