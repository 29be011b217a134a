-- A list that nothing watches isn't stopped.
use Rattle.parallel_bridge.proofs.{Answered, cutdepth}
use Rattle.parallel_bridge.proofs.Watches.{filled_unhalted, not_stopped}
use Rattle.parallel_bridge.proofs.fill.fill.Goals as goal

pub unhalt-requires : goal.unhalt-requires
unhalt-requires g c =
    not_stopped c.fill_watched-room.result.1 c.fill_watched-room.ensures.ends

pub returns : goal.returns
returns g c =
    filled_unhalted g.P.Parts.gives c.args.parts
    (Answered (g.W.Writer.so_far c.args.writer.now) (g.W.Writer.fails c.args.writer.now))
    (cutdepth c.args.threads.value) c.args.room c.fill_watched-room.result.0 c.fill_watched-room.result.1
    c.unhalt.result c.unhalt.ensures c.fill_watched-room.ensures.filled
