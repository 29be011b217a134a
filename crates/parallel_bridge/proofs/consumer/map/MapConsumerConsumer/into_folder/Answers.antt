-- What the base's folder gives, the base gives.
use Rattle.parallel_bridge.proofs.{MapOf, results_wider}
use Rattle.parallel_bridge.proofs.consumer.map.MapConsumerConsumer.into_folder.Goals as goal

pub returns-clause-gives : goal.returns-clause-gives
returns-clause-gives g c xs out h =
    let self = c.args.self in let answered = MapOf (goal.F-post g self.map_op.now) in
    results_wider _ answered answered _ (g.C.Consumer.leaf_gives self.base)
    (λ xs ys h. h) c.in_ok-base.ensures.gives xs out h
