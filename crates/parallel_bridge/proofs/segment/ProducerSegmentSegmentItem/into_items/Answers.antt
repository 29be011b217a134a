-- What may come of the producer's iterator may come of the producer.
use Rattle.parallel_bridge.proofs.{next_has}
use Rattle.parallel_bridge.proofs.segment.ProducerSegmentSegmentItem.into_items.Goals as goal

pub returns-clause-may : goal.returns-clause-may
returns-clause-may g c x (before, t, u, led, step) =
    next_has g.P.Iter.Iterator.next_gives (g.P.Producer.may c.args.self.parts)
    c.into_items.result t u before x c.into_items.ensures.may led step
