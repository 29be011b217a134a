-- A half has fewer leaves.
use Rattle.commonware_parallel.proofs.merkle.tops.+full_top.Given as goal

abbrev pub decreases-full_top : goal.decreases-full_top
decreases-full_top g l = l.size
