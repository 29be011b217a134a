-- What the base's folder gives, the base gives; the chain begins at the identity.
use Rattle.parallel_bridge.proofs.{Chain, FoldSegment, value_wider}
use Rattle.parallel_bridge.proofs.consumer.fold.FoldConsumerConsumer.into_folder.Goals as goal

pub returns-clause-gives : goal.returns-clause-gives
returns-clause-gives g c xs out h =
    let self = c.args.self in let step = goal.F-post g self.fold_op.now in
    value_wider _ (Chain step c.identity.result)
    (FoldSegment (goal.I-post g self.identity.now) step) _ (g.C.Consumer.leaf_gives self.base) xs xs
    (λ b chain. (c.identity.result, c.identity.ensures, chain))
    c.in_ok-base.ensures.gives out h
