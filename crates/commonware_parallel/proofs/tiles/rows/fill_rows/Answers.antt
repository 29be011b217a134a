-- One whole row more.
use Rattle.commonware_parallel.proofs.{refl, add-one}
use Rattle.commonware_parallel.proofs.tiles.rows.fill_rows.Goals as goal

pub loop-row-preserved : goal.loop-row-preserved
loop-row-preserved g c =
    rw (add-one c.loop-row.row) (
      c.loop-row.state,
      c.fill.new.arg2,
      c.loop-row.results.items,
      c.finish.result,
      c.loop-row.invariant,
      (_, _, refl, c.fill.ensures, refl),
      (_, _, refl, rw c.of.ensures at c.finish.ensures, refl),
      c.in_ok-push.ensures.items,
    )
