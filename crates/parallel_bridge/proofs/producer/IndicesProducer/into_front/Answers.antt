-- The first indices.
use Rattle.parallel_bridge.proofs.{indices_front}
use Rattle.parallel_bridge.proofs.producer.IndicesProducer.into_front.Goals as goal

pub returns-clause-front : goal.returns-clause-front
returns-clause-front c xs front =
    indices_front c.args.self.start c.args.self.end c.args.index xs c.requires front
