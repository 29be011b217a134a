-- No item, no result.
use Rattle.parallel_bridge.proofs.{[], MapStep, OnResults, StatesFrom, unless_weaker, results_given, rules}
use Rattle.parallel_bridge.proofs.consumer.map_init.MapWithFolderFolder.complete.Goals as goal

pub returns : goal.returns
returns g c =
    let self = c.args.self in
    let from = StatesFrom (MapStep (goal.F-post g self.map_op.now)) self.item in
    let gives = g.C.Folder.gives self.base in
    unless_weaker c.complete.result (gives []) (OnResults g.C.Folder.may_fill from gives [])
    (λ out h. results_given g.C.Folder.may_fill from gives [] [] out (search rules) h)
    c.complete.ensures
