-- The tiles are of the one grid, for a number of workers that the strategy took.
use Rattle.commonware_parallel.proofs.{◌≡◌, ◌≤◌, arith, ap, ◌∙◌, subst, IfOk-weaker, tiles_call, Call, Into}
use Rattle.commonware_parallel.proofs.OneGrid.{only_cost, only_grid}
use Rattle.commonware_parallel.proofs.RowFolds.{whole_rows_given}
use Rattle.commonware_parallel.specs.RowFolds.{FoldsRows}
use Rattle.commonware_parallel.specs.Tiles.{columns_of, rows_of}
use Rattle.commonware_parallel.proofs.strategy.Strategy.fold_rows.Goals as goal

pub fold_tiles-folded-requires-clause-kernel_accepts : goal.fold_tiles-folded-requires-clause-kernel_accepts
fold_tiles-folded-requires-clause-kernel_accepts g c κs within =
    let tiles = c.for_workers-tiles.result in
    let tiling = c.for_workers-tiles.ensures.tiling in
    let wide : columns_of tiles ≡ c.args.len = tiling.columns in
    let rows : rows_of tiles ≡ c.args.rows =
    only_grid _ c.args.len c.in_ok-workers.workers tiles tiling in
    λ row columns is. c.requires.kernel_accepts row columns
    (omega (arith, is.0, rows), is.1, omega (arith, is.2, wide))

pub returns-clause-folds : goal.returns-clause-folds
returns-clause-folds g c =
    let kernel = goal.K-post g c.args.kernel in
    let merge = goal.M-post g c.args.merge in
    let tiles = c.for_workers-tiles.result in
    let tiling = c.for_workers-tiles.ensures.tiling in
    IfOk-weaker c.end_as.result _ _
    (λ values gave.
    let all : FoldsRows kernel merge (rows_of tiles) (columns_of tiles) values.items = gave in
    subst (λ n. FoldsRows kernel merge n c.args.len values.items)
    (only_grid _ c.args.len c.in_ok-workers.workers tiles tiling)
    (subst (λ n. FoldsRows kernel merge (rows_of tiles) n values.items) tiling.columns all))
    (rw c.end_as.ensures c.fold_tiles-folded.ensures.folds)

pub returns-clause-whole : goal.returns-clause-whole
returns-clause-whole g c additive =
    IfOk-weaker c.end_as.result _ _
    (λ values. whole_rows_given (goal.K-post g c.args.kernel) (goal.M-post g c.args.merge)
    c.args.rows c.args.len additive values.items)
    (returns-clause-folds g c)

pub returns-clause-asked : goal.returns-clause-asked
returns-clause-asked g c =
    let T = g.Self.Chooser in
    let taken = c.in_ok-workers.ensures in
    let cost = c.serial_cost-cost.result in
    let workers = c.in_ok-workers.workers in
    let P : Call → Type 0 = λ call. (workers ≤ call.max_parts)
    × T.takes c.args.self.now (g.P.Place.site_of c.args.site) call (Into workers) in
    let same : c.tiles-call.result ≡ tiles_call
    (T.plans c.args.self.now) c.args.len cost 1 = c.tiles-call.ensures
    ∙ ap (λ n. tiles_call n c.args.len cost 1) c.planning.ensures.number in
    let asked = subst P same (taken.fit, taken.takes) in
    IfOk-weaker c.end_as.result _ _
    (λ values folds. (
      workers,
      taken.some,
      asked.0,
      subst (λ cost. T.takes c.args.self.now (g.P.Place.site_of c.args.site)
          (tiles_call (T.plans c.args.self.now) c.args.len cost 1) (Into workers))
          (only_cost _ c.args.len cost c.serial_cost-cost.ensures) asked.1,
    ))
    (returns-clause-folds g c)
