-- The law, at the relations of the four closures.
use Rattle.parallel_bridge.proofs.{FoldStep, plain_from_states}
use Rattle.parallel_bridge.proofs.law.fold_init_law.Goals as goal

pub returns : goal.returns
returns g c xs r h = plain_from_states (goal.N-post g c.args.init.now)
    (goal.I-post g c.args.identity.now) (FoldStep (goal.F-post g c.args.fold_op.now))
    (goal.G-post g c.args.reduce_op.now) xs r h
