-- What two halves give is among the values that may be reduced.
use Rattle.parallel_bridge.proofs.{List, ReducesTo, Result, TryFoldSegment, given_ok}
use Rattle.parallel_bridge.proofs.consumer.try_reduce.TryReduceConsumerConsumerResult.split_at.Goals as goal

pub returns-clause-reducer : goal.returns-clause-reducer
returns-clause-reducer g c a b h k =
    let self = c.args.self in let has = g.D.Domain.has in
    let reduce = goal.G-post g self.reduce_op.now in
    let leaf =
    λ (xs : List (Result g.row.T.Denot g.row.E.Denot)) (out : Result g.row.T.Denot g.row.E.Denot).
    TryFoldSegment (goal.I-post g self.identity.now) (ReducesTo reduce) xs out in
    c.requires.2 a b (given_ok has leaf reduce a h) (given_ok has leaf reduce b k)
