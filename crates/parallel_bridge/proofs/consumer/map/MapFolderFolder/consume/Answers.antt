-- The item's result is one more that the base took.
use Rattle.parallel_bridge.proofs.{MapOf, results_more}
use Rattle.parallel_bridge.proofs.consumer.map.MapFolderFolder.consume.Goals as goal

pub returns-clause-gives : goal.returns-clause-gives
returns-clause-gives g c xs out h =
    let self = c.args.self in let answered = MapOf (goal.F-post g self.map_op.now) in
    results_more g.C.Folder.may_fill answered answered (g.C.Folder.gives self.base)
    (g.C.Folder.gives c.in_ok-base.base) c.args.item c.map_op-answer.result
    (λ xs ys more. (c.map_op-answer.ensures, more)) c.in_ok-base.ensures.gives xs out h
