-- The pairs of two fronts.
use Rattle.parallel_bridge.proofs.{zipped_front}
use Rattle.parallel_bridge.proofs.zipped.ZippedProducer.into_front.Goals as goal

pub returns-clause-front : goal.returns-clause-front
returns-clause-front g c =
    let self = c.args.self in
    zipped_front c.args.index (g.L.Producer.gives self.left)
    (g.L.Producer.gives c.into_front.result) (g.R.Producer.gives self.right)
    (g.R.Producer.gives c.into_front-2.result) c.into_front.ensures.front
    c.into_front-2.ensures.front
