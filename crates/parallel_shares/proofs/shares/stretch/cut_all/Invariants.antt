-- The claims so far are cut, and the stretches that ended are the results.
use Rattle.parallel_shares.proofs.{take, all_cells, Fills, Ends, Underway}
use Rattle.parallel_shares.proofs.shares.stretch.cut_all.Given as goal

abbrev pub invariant-loop-claim : goal.invariant-loop-claim
invariant-loop-claim g l =
    Underway (Fills (goal.L-post g l.fill)) (Ends (λ stretch. stretch) (goal.N-post g l.whole))
    l.len (tt {0}) (all_cells (take l.claim-index l.claims)) l.opened l.found.items (tt {0})
