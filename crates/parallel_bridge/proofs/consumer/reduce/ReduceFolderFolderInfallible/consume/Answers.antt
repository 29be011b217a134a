-- The reduction stays among the values.
use Rattle.parallel_bridge.proofs.consumer.reduce.ReduceFolderFolderInfallible.consume.Goals as goal

pub returns-clause-ready : goal.returns-clause-ready
returns-clause-ready g c =
    let closed = c.requires.ready.1 in (
      (closed c.args.self.item c.args.item c.requires.ready.0 c.requires.item).1
          c.reduce_op-item.result c.reduce_op-item.ensures,
      closed,
    )
