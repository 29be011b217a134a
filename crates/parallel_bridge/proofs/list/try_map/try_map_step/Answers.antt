-- The item fails.
use Rattle.parallel_bridge.proofs.{rules, first_fails}
use Rattle.parallel_bridge.proofs.list.try_map.try_map_step.Goals as goal

pub returns-in-Err-clause-gives : goal.returns-in-Err-clause-gives
returns-in-Err-clause-gives g c = first_fails
    (goal.F-post g c.args.map_op.now) c.args.values.now.items c.args.failed.now c.args.item c.in-Err.error (search rules)
    (search rules)
