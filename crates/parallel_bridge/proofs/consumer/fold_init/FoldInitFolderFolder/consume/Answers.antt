-- One step more, from the state that this one left.
use Rattle.parallel_bridge.proofs.{◌∷◌, FoldStep, StateChain, value_wider, rules}
use Rattle.parallel_bridge.proofs.consumer.fold_init.FoldInitFolderFolder.consume.Goals as goal

pub returns-clause-gives : goal.returns-clause-gives
returns-clause-gives g c xs out h =
    let self = c.args.self in
    let chain = StateChain (FoldStep (goal.F-post g self.fold_op.now)) in
    let gives = g.C.Folder.gives self.base in
    value_wider g.C.Folder.may_fill (chain c.fold_op-value.new.arg3 c.fold_op-value.result)
    (chain self.state self.item) gives gives xs (c.args.item ∷ xs)
    (λ b more. (_, _, search rules, more)) (λ bs out h. h) out h

pub returns-clause-ready : goal.returns-clause-ready
returns-clause-ready g c = (
  c.requires.ready.0,
  c.requires.ready.1,
  (c.requires.item c.args.self.item c.requires.ready.2 _).1 _ _ c.fold_op-value.ensures,
)
