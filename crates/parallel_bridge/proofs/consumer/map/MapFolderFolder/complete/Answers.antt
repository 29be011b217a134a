-- No item, no result.
use Rattle.parallel_bridge.proofs.{[], MapOf, OnResults, unless_weaker, results_given, rules}
use Rattle.parallel_bridge.proofs.consumer.map.MapFolderFolder.complete.Goals as goal

pub returns : goal.returns
returns g c =
    let self = c.args.self in let answered = MapOf (goal.F-post g self.map_op.now) in
    let gives = g.C.Folder.gives self.base in
    unless_weaker c.complete.result (gives [])
    (OnResults g.C.Folder.may_fill answered gives [])
    (λ out h. results_given g.C.Folder.may_fill answered gives [] [] out (search rules) h)
    c.complete.ensures
