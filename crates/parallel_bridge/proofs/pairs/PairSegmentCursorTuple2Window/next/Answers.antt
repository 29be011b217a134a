-- After the first pair are the others.
use Rattle.parallel_bridge.proofs.{others_of, pairs_of}
use Rattle.parallel_bridge.proofs.pairs.PairSegmentCursorTuple2Window.next.Goals as goal

pub returns-clause-others : goal.returns-clause-others
returns-clause-others g c y = others_of (pairs_of c.args.self.now.window.items)
    (pairs_of c.take_pair.new.window.items) c.take_pair.result y c.take_pair.ensures.items
