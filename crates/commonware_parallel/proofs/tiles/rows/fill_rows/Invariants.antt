-- The rows so far, whole and in order.
use Rattle.commonware_parallel.proofs.{Ends, Fills, WholeRows}
use Rattle.commonware_parallel.proofs.tiles.rows.fill_rows.Given as goal

abbrev pub invariant-loop-row : goal.invariant-loop-row
invariant-loop-row g l = WholeRows (Fills (goal.L-post g l.fill)) (Ends g.Q.Part.part_of (goal.F-post g l.finish))
    l.len l.fn.state l.row l.results.items l.state
