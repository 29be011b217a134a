-- what is counted are the flags that the ranges so far cut off
use Rattle.uses.proofs.Counts.{CountsTo}
use Rattle.uses.proofs.batches.count_ranges.Given as goal

abbrev pub invariant-loop-range : goal.invariant-loop-range
invariant-loop-range l = CountsTo l.flags l.ranges l.range-index l.count
