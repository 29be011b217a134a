-- Each item that comes may come.
use Rattle.parallel_bridge.proofs.{may_along}
use Rattle.parallel_bridge.proofs.source.AnySourceByIter.into_items.Goals as goal

pub returns-clause-may : goal.returns-clause-may
returns-clause-may g c = may_along g.I.Iterator.next_gives c.args.self
