-- What comes may come, and what may come after it.
use Rattle.parallel_bridge.proofs.{item_may_come, others_may_come}
use Rattle.parallel_bridge.proofs.cursor.IterCursorCursorItemUnit.next.Goals as goal

pub returns-clause-may : goal.returns-clause-may
returns-clause-may g c = item_may_come g.I.Iterator.next_gives c.args.self.now.iter
    c.next.new.self c.next.result c.next.ensures.steps

pub returns-clause-others : goal.returns-clause-others
returns-clause-others g c = others_may_come g.I.Iterator.next_gives c.args.self.now.iter
    c.next.new.self c.next.result c.next.ensures.steps
