-- What the base's folder gives, the base gives; the state is a fresh one.
use Rattle.parallel_bridge.proofs.{MapStep, StateSegment, StatesFrom, results_wider}
use Rattle.parallel_bridge.proofs.consumer.map_init.MapInitConsumerConsumer.into_folder.Goals as goal

pub returns-clause-gives : goal.returns-clause-gives
returns-clause-gives g c xs out h =
    let self = c.args.self in let step = MapStep (goal.F-post g self.map_op.now) in
    results_wider _ (StatesFrom step c.init.result)
    (StateSegment (goal.N-post g self.init.now) step) _ (g.C.Consumer.leaf_gives self.base)
    (λ xs ys h. (c.init.result, c.init.ensures, h)) c.in_ok-base.ensures.gives xs out h
