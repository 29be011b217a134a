-- What a try to steal tells after a try to claim. The places of calls aren't named, so that a body
-- with the calls in another order fails at these goals.
use Rattle.parallel_shares.proofs.{rules, each_grow, each_gains}
use Rattle.parallel_shares.proofs.shares.Shares.try_each.Goals as goal

pub returns-in-Empty-clause-loads : goal.returns-in-Empty-clause-loads
returns-in-Empty-clause-loads c = search (each_grow, rules)

pub returns-in-Empty-clause-answer : goal.returns-in-Empty-clause-answer
returns-in-Empty-clause-answer c = search (each_gains, rules)
