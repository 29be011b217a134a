-- One result more.
use Rattle.parallel_bridge.proofs.{[], ◌∷◌, MapOf-append}
use Rattle.parallel_bridge.proofs.fill.writer.MapWriterWriter.answer.Goals as goal

pub returns-clause-next : goal.returns-clause-next
returns-clause-next g c xs ys each = MapOf-append (goal.F-post g c.args.self.now.map_op.now) xs
    (c.args.item ∷ []) ys (c.map_op.result ∷ []) each (c.map_op.ensures, tt)
