-- Twice a block's size is that of the block above.
use Rattle.commonware_parallel.proofs.{◌+◌, arith, suc}
use Rattle.commonware_parallel.proofs.merkle.descent.block_size.Goals as goal

pub loop-size-preserved : goal.loop-size-preserved
loop-size-preserved c =
    let size = c.loop-size.invariant in
    ((suc size.0.0, λ i. size.0.1 i + size.0.1 i), omega (arith, size.1))
