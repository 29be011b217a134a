-- After the first item are the others.
use Rattle.parallel_bridge.proofs.{others_of}
use Rattle.parallel_bridge.proofs.segment.WindowSegmentCursorWindow.next.Goals as goal

pub returns-clause-others : goal.returns-clause-others
returns-clause-others g c y = others_of c.args.self.now.window.items c.take.new.self.items
    c.take.result y c.take.ensures.items
