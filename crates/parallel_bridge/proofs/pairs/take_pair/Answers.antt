-- The first two items are the first pair.
use Rattle.parallel_bridge.proofs.{two_taken}
use Rattle.parallel_bridge.proofs.pairs.take_pair.Goals as goal

pub returns-clause-items : goal.returns-clause-items
returns-clause-items g c =
    two_taken c.args.window.now.items c.take-left.new.self.items c.take-right.new.self.items
    c.take-left.result c.take-right.result c.take-left.ensures.items c.take-right.ensures.items
