-- The folder takes each item that comes.
use Rattle.parallel_bridge.proofs.{rules, next_has}
use Rattle.parallel_bridge.proofs.plumbing.Folder.consume_iter.Goals as goal

pub consume-requires-clause-item : goal.consume-requires-clause-item
consume-requires-clause-item g c = c.loop-item.invariant.takes c.in-Some.item
    (next_has g.I.Iterator.next_gives (g.Self.Folder.takes c.args.self) c.args.iter
    c.loop-item.item-iterator c.next.new.self c.loop-item.yielded c.in-Some.item
    c.requires.items (search rules) (search rules))
