-- What two halves give is among the values that may be reduced.
use Rattle.parallel_bridge.proofs.{FoldSegment, Infallible, given_has}
use Rattle.parallel_bridge.proofs.consumer.reduce.ReduceConsumerConsumer.split_at.Goals as goal

pub returns-clause-reducer : goal.returns-clause-reducer
returns-clause-reducer g c a b h k =
    let self = c.args.self in let has = g.D.Domain.has in
    let reduce = goal.G-post g self.reduce_op.now in
    let leaf = FoldSegment (goal.I-post g self.identity.now) reduce in
    c.requires.2 a b (given_has Infallible has leaf reduce a h)
    (given_has Infallible has leaf reduce b k)
