-- What was gathered came, and so each item of it may come.
use Rattle.parallel_bridge.proofs.{rules, may_of}
use Rattle.parallel_bridge.proofs.source.gathered.Goals as goal

pub returns-clause-drained : goal.returns-clause-drained
returns-clause-drained g c = search rules

pub returns-clause-may : goal.returns-clause-may
returns-clause-may g c =
    may_of g.I.Iterator.next_gives c.args.iter c.extend.new.self.items (search rules)
