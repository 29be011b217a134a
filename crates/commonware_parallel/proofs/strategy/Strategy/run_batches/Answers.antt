-- The batch has as many ranges as the strategy took, and its inner one.
use Rattle.commonware_parallel.proofs.{Batches, on_some_batch}
use Rattle.commonware_parallel.proofs.strategy.Strategy.run_batches.Goals as goal

pub run-answer-requires : goal.run-answer-requires
run-answer-requires g c = c.requires c.in_ok-batches.batches _ c.in_ok-batches.ensures.batch

pub returns-clause-answers : goal.returns-clause-answers
returns-clause-answers g c =
    let T = g.Self.Chooser in
    let e = c.in_ok-batches.ensures in
    let taken = c.in_ok-parts.ensures in
    on_some_batch T.takes T.refuses T.plans T.threads T.starts g.P.Place.site_of c.args.self.now
    c.in_ok-inner.inner c.args.site c.args.len c.args.minimum c.args.multiplier
    (λ (batches : Batches g.row.Self.Denot g.row.P.Denot). g.F.FnOnce.post c.args.run
    (batches, tt) c.run-answer.result) _ _ _ c.in_ok-batches.batches c.batches-call.ensures
    c.planning.ensures.number taken.some taken.fit taken.takes c.in_ok-inner.ensures.inner
    e.strategy e.place e.batch c.run-answer.ensures
