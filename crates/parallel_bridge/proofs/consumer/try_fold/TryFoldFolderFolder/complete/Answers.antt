-- The base takes the outcome.
use Rattle.parallel_bridge.proofs.{Result, ◌∷◌, [], TryContinues, unless_weaker, try_rests}
use Rattle.parallel_bridge.proofs.consumer.try_fold.TryFoldFolderFolder.complete.Goals as goal

pub returns : goal.returns
returns g c =
    let self = c.args.self in let step = goal.F-post g self.fold_op.now in
    unless_weaker c.complete.result (g.C.Folder.gives c.in_ok-base.base [])
    (λ out. (v : Result g.row.T.Denot g.row.E.Denot) × TryContinues step self.control [] v
    × g.C.Folder.gives self.base (v ∷ []) out)
    (λ out h. (self.control, try_rests step self.control, c.in_ok-base.ensures.gives [] out h))
    c.complete.ensures
