-- What comes are the front's items, and then the back's.
use Rattle.std.proofs.Common.{rules}
use Rattle.std.proofs.lemmas.Iterator.{YieldsList-from_slice}
use Rattle.std.proofs.lemmas.Iterator.Consumers.{YieldsList-at, YieldsList-from_chain, YieldsList-from_copied}
use Rattle.parallel_bridge.proofs.IteratorItems.{came_as_it_is, stands_in}
use Rattle.uses.proofs.own_lists.WrappedSourceByWrapping.into_items.Goals as goal

pub returns-clause-gives : goal.returns-clause-gives
returns-clause-gives g c xs drains =
    let first = YieldsList-from_copied {s = c.copied.result}
    (YieldsList-from_slice c.args.self.front.now (search rules)) in
    let second = YieldsList-from_copied {s = c.copied-2.result}
    (YieldsList-from_slice c.args.self.back.now (search rules)) in
    came_as_it_is xs drains (YieldsList-from_chain {s = c.chain.result}
    (YieldsList-at (search rules) first) (YieldsList-at (search rules) second) (search rules)
    (search rules))

pub returns-clause-may : goal.returns-clause-may
returns-clause-may g c =
    let first = YieldsList-from_copied {s = c.copied.result}
    (YieldsList-from_slice c.args.self.front.now (search rules)) in
    let second = YieldsList-from_copied {s = c.copied-2.result}
    (YieldsList-from_slice c.args.self.back.now (search rules)) in
    stands_in (YieldsList-from_chain {s = c.chain.result} (YieldsList-at (search rules) first)
    (YieldsList-at (search rules) second) (search rules) (search rules))
