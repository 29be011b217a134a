-- A value is one that the closure returned.
use Rattle.std.proofs.Common.{IfOk}
use Rattle.parallel_bridge.proofs.OverLists.{finished}
use Rattle.uses.proofs.stopping.map_unless_stopped.Goals as goal

pub returns-clause-answers : goal.returns-clause-answers
returns-clause-answers g c = finished c.args.items.now
    (λ x out. IfOk out (λ y. goal.F-post g c.args.work x y))
    (λ x y. goal.F-post g c.args.work x y) c.try_map_collect_vec.result
    c.try_map_collect_vec.ensures.answers (λ x y k. k)
