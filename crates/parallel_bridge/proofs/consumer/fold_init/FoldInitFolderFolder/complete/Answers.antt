-- The base takes the value.
use Rattle.parallel_bridge.proofs.{[], refl, FoldStep, OnValue, StateChain, unless_weaker, value_given}
use Rattle.parallel_bridge.proofs.consumer.fold_init.FoldInitFolderFolder.complete.Goals as goal

pub returns : goal.returns
returns g c =
    let self = c.args.self in
    let chain = StateChain (FoldStep (goal.F-post g self.fold_op.now)) self.state self.item in
    let gives = g.C.Folder.gives self.base in
    unless_weaker c.complete.result (g.C.Folder.gives c.in_ok-base.base [])
    (OnValue g.C.Folder.may_fill chain gives [])
    (λ out h. value_given g.C.Folder.may_fill chain gives [] self.item out refl
    (c.in_ok-base.ensures.gives [] out h))
    c.complete.ensures
