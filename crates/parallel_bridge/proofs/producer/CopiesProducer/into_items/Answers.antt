-- What comes are the slice's items, in order.
use Rattle.parallel_bridge.proofs.{rules, YieldsList-from_slice, YieldsList-from_copied, came_as_it_is, stands_in}
use Rattle.parallel_bridge.proofs.producer.CopiesProducer.into_items.Goals as goal

pub returns-clause-gives : goal.returns-clause-gives
returns-clause-gives g c xs drains = came_as_it_is xs drains
    (YieldsList-from_copied {s = c.copied.result}
    (YieldsList-from_slice c.args.self.slice.now (search rules)))

pub returns-clause-may : goal.returns-clause-may
returns-clause-may g c = stands_in (YieldsList-from_copied {s = c.copied.result}
    (YieldsList-from_slice c.args.self.slice.now (search rules)))
