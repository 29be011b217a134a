-- One row more.
use Rattle.commonware_parallel.proofs.{next_value}
use Rattle.commonware_parallel.specs.RowFolds.{columns_between}
use Rattle.commonware_parallel.proofs.tiles.folded.rows_without_columns.Goals as goal

pub loop-row-preserved : goal.loop-row-preserved
loop-row-preserved g c =
    next_value (λ row value. goal.K-post g c.args.kernel.now row (columns_between 0 0) value)
    c.loop-row.row c.loop-row.values.items c.push.new.self.items c.kernel.result
    c.loop-row.invariant c.kernel.ensures c.in_ok-push.ensures.items
