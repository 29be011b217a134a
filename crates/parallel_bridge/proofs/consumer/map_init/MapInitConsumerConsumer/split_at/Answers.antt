-- What a half gives, its base gives.
use Rattle.parallel_bridge.proofs.{given_results}
use Rattle.parallel_bridge.proofs.consumer.map_init.MapInitConsumerConsumer.split_at.Goals as goal

pub returns-clause-reducer : goal.returns-clause-reducer
returns-clause-reducer g c a b h k =
    let node = g.C.Consumer.node_gives in let halves = c.in_ok-left in
    halves.ensures.reducer a b (given_results _ _ _ (node halves.left) a h)
    (given_results _ _ _ (node halves.rest) b k)
