-- What the base's folder gives, the base gives; the state and the value are fresh.
use Rattle.parallel_bridge.proofs.{FoldInitSegment, FoldStep, StateChain, value_wider}
use Rattle.parallel_bridge.proofs.consumer.fold_init.FoldInitConsumerConsumer.into_folder.Goals as goal

pub returns-clause-gives : goal.returns-clause-gives
returns-clause-gives g c xs out h =
    let self = c.args.self in let step = FoldStep (goal.F-post g self.fold_op.now) in
    let init = c.init-state in let identity = c.identity-item in
    value_wider _ (StateChain step init.result identity.result)
    (FoldInitSegment (goal.N-post g self.init.now) (goal.I-post g self.identity.now) step) _
    (g.C.Consumer.leaf_gives self.base) xs xs
    (λ b chain. (init.result, identity.result, init.ensures, identity.ensures, chain))
    c.in_ok-base.ensures.gives out h
