-- The nodes of the leaves so far, but of an odd last one.
use Rattle.commonware_parallel.proofs.{LevelSoFar}
use Rattle.commonware_parallel.proofs.merkle.plain.first_level.Given as goal

abbrev pub invariant-loop-item : goal.invariant-loop-item
invariant-loop-item g l = LevelSoFar (goal.L-post g l.leaf) (goal.F-post g l.combine) l.yielded
    l.nodes.items l.odd
