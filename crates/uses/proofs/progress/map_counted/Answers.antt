-- Each result is one that the closure returned.
use Rattle.std.proofs.Common.{rules}
use Rattle.parallel_bridge.proofs.OverLists.{mapped}
use Rattle.uses.proofs.progress.map_counted.Goals as goal

pub returns-clause-answers : goal.returns-clause-answers
returns-clause-answers g c = mapped c.args.items.now _
    (λ x y. goal.F-post g c.args.work.now x y) c.map_collect_vec.result
    c.map_collect_vec.ensures.answers (λ x y k. search rules)
