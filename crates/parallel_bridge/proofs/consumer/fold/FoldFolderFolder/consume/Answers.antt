-- One step more of the chain.
use Rattle.parallel_bridge.proofs.{◌∷◌, Chain, value_wider}
use Rattle.parallel_bridge.proofs.consumer.fold.FoldFolderFolder.consume.Goals as goal

pub returns-clause-gives : goal.returns-clause-gives
returns-clause-gives g c xs out h =
    let self = c.args.self in let chain = Chain (goal.F-post g self.fold_op.now) in
    let gives = g.C.Folder.gives self.base in
    value_wider g.C.Folder.may_fill (chain c.fold_op-item.result) (chain self.item) gives gives xs
    (c.args.item ∷ xs) (λ b more. (_, c.fold_op-item.ensures, more)) (λ bs out h. h) out h
