-- The first index that fails is that of the first item that does.
use Rattle.parallel_bridge.proofs.OverLists.{if_ok, if_err}
use Rattle.batch_verifier.proofs.Verdicts.{verified}
use Rattle.batch_verifier.proofs.items.judge_all.Goals as goal

pub returns-clause-each : goal.returns-clause-each
returns-clause-each g c = if_ok _ _ c.try_map_collect_vec.result
    (verified c.args.items.now (λ x b. goal.C-post g c.args.check.now x b)
    (λ i out. goal.F-post g c.args.verdict i out) c.try_map_collect_vec.result
    c.try_map_collect_vec.ensures.answers c.requires.judges)

pub returns-clause-first : goal.returns-clause-first
returns-clause-first g c = if_err _ _ c.try_map_collect_vec.result
    (verified c.args.items.now (λ x b. goal.C-post g c.args.check.now x b)
    (λ i out. goal.F-post g c.args.verdict i out) c.try_map_collect_vec.result
    c.try_map_collect_vec.ensures.answers c.requires.judges)
