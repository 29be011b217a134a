-- The law, at the relations of the three closures.
use Rattle.parallel_bridge.proofs.{plain_from_bracketing}
use Rattle.parallel_bridge.proofs.law.fold_law.Goals as goal

pub returns : goal.returns
returns g c xs r h = plain_from_bracketing (goal.I-post g c.args.identity.now)
    (goal.F-post g c.args.fold_op.now) (goal.G-post g c.args.reduce_op.now) xs r h
