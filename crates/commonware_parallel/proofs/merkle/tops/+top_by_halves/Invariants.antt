-- A half has fewer items.
use Rattle.commonware_parallel.proofs.merkle.tops.+top_by_halves.Given as goal

abbrev pub decreases-top_by_halves : goal.decreases-top_by_halves
decreases-top_by_halves g l = l.size
