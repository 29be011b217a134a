-- The rows so far have what the kernel gave of no columns.
use Rattle.commonware_parallel.specs.RowFolds.{GivesRows}
use Rattle.commonware_parallel.proofs.tiles.folded.rows_without_columns.Given as goal

abbrev pub invariant-loop-row : goal.invariant-loop-row
invariant-loop-row g l = GivesRows (goal.K-post g l.kernel) l.row 0 l.values.items
