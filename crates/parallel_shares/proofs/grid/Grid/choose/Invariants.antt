-- The grid chosen so far is the first of least cost among those seen.
use Rattle.parallel_shares.proofs.{non_zero_usize_get, IsChosenSoFar}
use Rattle.parallel_shares.proofs.grid.Grid.choose.Given as goal

abbrev pub invariant-loop-index : goal.invariant-loop-index
invariant-loop-index l =
    IsChosenSoFar l.grids l.len (non_zero_usize_get l.workers) l.index l.chosen l.cost l.whole
