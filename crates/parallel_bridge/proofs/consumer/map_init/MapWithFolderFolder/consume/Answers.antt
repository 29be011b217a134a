-- One step more, from the state that this one left.
use Rattle.parallel_bridge.proofs.{MapStep, StatesFrom, results_more, rules}
use Rattle.parallel_bridge.proofs.consumer.map_init.MapWithFolderFolder.consume.Goals as goal

pub returns-clause-gives : goal.returns-clause-gives
returns-clause-gives g c xs out h =
    let self = c.args.self in let from = StatesFrom (MapStep (goal.F-post g self.map_op.now)) in
    results_more g.C.Folder.may_fill (from self.item) (from c.map_op-answer.new.arg2)
    (g.C.Folder.gives self.base) (g.C.Folder.gives c.in_ok-base.base)
    c.args.item c.map_op-answer.result (λ xs ys more. (_, search rules, more))
    c.in_ok-base.ensures.gives xs out h
