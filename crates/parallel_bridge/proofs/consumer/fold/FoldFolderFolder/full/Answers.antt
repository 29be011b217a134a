-- It is full where its base is, and then the value makes no difference.
use Rattle.parallel_bridge.proofs.{Chain, value_rest}
use Rattle.parallel_bridge.proofs.consumer.fold.FoldFolderFolder.full.Goals as goal

pub returns-clause-rests : goal.returns-clause-rests
returns-clause-rests g c full xs more out h =
    let self = c.args.self.now in
    value_rest g.C.Folder.may_fill (Chain (goal.F-post g self.fold_op.now) self.item)
    (g.C.Folder.gives self.base) (c.full.ensures.fills full) (c.full.ensures.rests full)
    xs more out h
