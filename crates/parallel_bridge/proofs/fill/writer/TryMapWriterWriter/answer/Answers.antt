-- One value more.
use Rattle.parallel_bridge.proofs.{one_value}
use Rattle.parallel_bridge.proofs.fill.writer.TryMapWriterWriter.answer.Goals as goal

pub returns-clause-next : goal.returns-clause-next
returns-clause-next g c = one_value
    (goal.F-post g c.args.self.now.map_op.now) c.args.item c.map_op.result c.map_op.ensures
