-- It is full where its base is, and then the results of further items make no difference.
use Rattle.parallel_bridge.proofs.{MapStep, StatesFrom, results_rest, rules}
use Rattle.parallel_bridge.proofs.consumer.map_init.MapWithFolderFolder.full.Goals as goal

pub returns-clause-rests : goal.returns-clause-rests
returns-clause-rests g c full xs more out h =
    let self = c.args.self.now in
    results_rest g.C.Folder.may_fill (StatesFrom (MapStep (goal.F-post g self.map_op.now)) self.item)
    (g.C.Folder.gives self.base) (c.full.ensures.fills full) (search rules)
    (c.full.ensures.rests full) xs more out h
