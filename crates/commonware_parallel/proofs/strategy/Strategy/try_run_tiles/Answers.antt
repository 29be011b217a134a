-- The tiles are for as many workers as the strategy took, and have its inner one.
use Rattle.commonware_parallel.proofs.{closure_told, ◌≡◌, ◌≤◌, ap, ◌∙◌, subst, sym, IsInnerOf, tiles_call, Call, Into}
use Rattle.commonware_parallel.proofs.strategy.Strategy.try_run_tiles.Goals as goal

pub run-outcome-requires : goal.run-outcome-requires
run-outcome-requires g c =
    c.requires.accepts c.for_workers-tiles.result _ c.for_workers-tiles.ensures.tiling

pub returns : goal.returns
returns g c =
    let T = g.Self.Chooser in
    let taken = c.in_ok-workers.ensures in
    let cost = c.serial_cost-cost.result in
    let workers = c.in_ok-workers.workers in
    let P : Call → Type 0 = λ call. (workers ≤ call.max_parts)
    × T.takes c.args.self.now (g.P.Place.site_of c.args.site) call (Into workers) in
    let same : c.tiles-call.result ≡ tiles_call
    (T.plans c.args.self.now) c.args.len cost c.args.multiplier = c.tiles-call.ensures
    ∙ ap (λ n. tiles_call n c.args.len cost c.args.multiplier) c.planning.ensures.number in
    let asked = subst P same (taken.fit, taken.takes) in
    closure_told c.run-outcome.result c.end_with.result _ c.end_with.ensures (
      cost,
      c.serial_cost-cost.ensures,
      workers,
      taken.some,
      asked.0,
      asked.1,
      c.for_workers-tiles.result,
      c.for_workers-tiles.ensures.tiling,
      subst (IsInnerOf T.takes T.refuses T.plans T.threads T.starts c.args.self.now)
          (sym c.for_workers-tiles.ensures.strategy) c.in_ok-inner.ensures.inner,
      c.for_workers-tiles.ensures.place,
      c.run-outcome.ensures,
    )
