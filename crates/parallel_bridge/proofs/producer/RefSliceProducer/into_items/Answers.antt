-- What comes are borrows of the slice's items, in order.
use Rattle.parallel_bridge.proofs.{rules, YieldsList-from_slice, came, stands_in}
use Rattle.parallel_bridge.proofs.producer.RefSliceProducer.into_items.Goals as goal

pub returns-clause-gives : goal.returns-clause-gives
returns-clause-gives g c xs drains =
    came xs drains (YieldsList-from_slice c.args.self.now (search rules))

pub returns-clause-may : goal.returns-clause-may
returns-clause-may g c = stands_in (YieldsList-from_slice c.args.self.now (search rules))
