-- A chain over the items and one over more are one chain.
use Rattle.parallel_bridge.proofs.{◌∷◌, [], try_continues}
use Rattle.parallel_bridge.proofs.consumer.try_fold.TryFoldFolderFolder.consume.Goals as goal

pub returns-clause-gives : goal.returns-clause-gives
returns-clause-gives g c xs out (v, chain, gives) =
    let self = c.args.self in
    let step = goal.F-post g self.fold_op.now in (
      v,
      try_continues step self.control c.try_fold_step-control.result v
          (c.args.item ∷ []) xs c.try_fold_step-control.ensures chain,
      gives,
    )
