-- The batch has as many ranges as the strategy took, and its inner one.
use Rattle.commonware_parallel.proofs.{Batches, closure_told, on_some_batch}
use Rattle.commonware_parallel.proofs.strategy.Strategy.try_run_batches.Goals as goal

pub run-outcome-requires : goal.run-outcome-requires
run-outcome-requires g c = c.requires c.in_ok-batches.batches _ c.in_ok-batches.ensures.batch

pub returns : goal.returns
returns g c =
    let T = g.Self.Chooser in
    let e = c.in_ok-batches.ensures in
    let taken = c.in_ok-parts.ensures in
    closure_told c.run-outcome.result c.end_with.result _ c.end_with.ensures
    (on_some_batch T.takes T.refuses T.plans T.threads T.starts g.P.Place.site_of c.args.self.now
    c.in_ok-inner.inner c.args.site c.args.len c.args.minimum c.args.multiplier
    (λ (batches : Batches g.row.Self.Denot g.row.P.Denot). g.F.FnOnce.post c.args.run
    (batches, tt) c.run-outcome.result) _ _ _ c.in_ok-batches.batches c.batches-call.ensures
    c.planning.ensures.number taken.some taken.fit taken.takes c.in_ok-inner.ensures.inner
    e.strategy e.place e.batch c.run-outcome.ensures)
