-- What comes are the slice's items, from the last one back.
use Rattle.std.proofs.Common.{rules}
use Rattle.std.proofs.lemmas.Iterator.Adapters.{YieldsList-from_rev_slice}
use Rattle.std.proofs.lemmas.Iterator.Consumers.{YieldsList-from_copied}
use Rattle.parallel_bridge.proofs.IteratorItems.{came_as_it_is, stands_in}
use Rattle.uses.proofs.own_lists.BackwardsProducer.into_items.Goals as goal

pub returns-clause-gives : goal.returns-clause-gives
returns-clause-gives g c xs drains = came_as_it_is xs drains
    (YieldsList-from_copied {s = c.copied.result}
    (YieldsList-from_rev_slice c.args.self.slice.now (search rules)))

pub returns-clause-may : goal.returns-clause-may
returns-clause-may g c =
    stands_in (YieldsList-from_copied {s = c.copied.result}
    (YieldsList-from_rev_slice c.args.self.slice.now (search rules)))
