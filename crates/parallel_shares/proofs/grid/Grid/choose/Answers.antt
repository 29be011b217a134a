-- Each turn of the scan keeps the chosen grid or takes the one that it looks at.
use Rattle.parallel_shares.proofs.{◌≡◌, length, sym, arith, non_zero_usize_get, IsChosenSoFar-more}
use Rattle.parallel_shares.proofs.grid.Grid.choose.Goals as goal
use Rattle.parallel_shares.proofs.grid.Grid.choose.Goals.{then-next_cost-cost, else-next_cost-cost}

pub loop-index-preserved : goal.loop-index-preserved
loop-index-preserved c =
    let l = c.loop-index in
    let next = c.critical_path-next_cost in
    let grid = c.index-grids-index in
    let more =
    IsChosenSoFar-more c.args.grids.now c.args.len (non_zero_usize_get c.args.workers) l.index
    l.chosen l.cost next.result.0 l.whole next.result.1 grid.result l.invariant
    c.loop-index-test.true grid.is next.ensures.cost next.ensures.whole in
    elim c.if-next_cost-cost.branch [
      | then-next_cost-cost w ↦ rw (w.chosen-is, w.cost-is, w.whole-is)
          (more.1 w.if-next_cost-cost.true)
      | else-next_cost-cost w ↦ rw (w.chosen-is, w.cost-is, w.whole-is)
          (more.0 (omega (arith, w.if-next_cost-cost.false)))
    ]

pub returns-clause-chosen : goal.returns-clause-chosen
returns-clause-chosen c =
    let all : c.loop-index.index ≡ length c.args.grids.now =
    omega (arith, c.loop-index.auto.index-end c.requires) in
    rw (sym all) c.loop-index.invariant.best
