-- The law, at the relation of the closure.
use Rattle.parallel_bridge.proofs.{map_is_function}
use Rattle.parallel_bridge.proofs.law.map_law.Goals as goal

pub returns : goal.returns
returns g c xs ys h f one = map_is_function (goal.F-post g c.args.map_op.now) xs ys h f one
