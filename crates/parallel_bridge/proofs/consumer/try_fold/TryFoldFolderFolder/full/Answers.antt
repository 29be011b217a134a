-- An error stands, whatever comes.
use Rattle.parallel_bridge.proofs.{rules, try_stands}
use Rattle.parallel_bridge.proofs.consumer.try_fold.TryFoldFolderFolder.full.Goals as goal

pub returns-clause-rests : goal.returns-clause-rests
returns-clause-rests g c full xs ys out (v, chain, gives) =
    let self = c.args.self.now in let step = goal.F-post g self.fold_op.now in
    (v, try_stands step self.control xs ys v (search rules) chain, gives)
