-- results from here for more items are, after those so far, results from the start
use Rattle.parallel_bridge.proofs.{List, ◌++◌, MapStep, StatesFrom}
use Rattle.parallel_bridge.proofs.list.map_init.map_init_iter.Given as goal

abbrev pub invariant-loop-item : goal.invariant-loop-item
invariant-loop-item g l = (more : List g.row.I-Item.Denot) (zs : List g.row.T.Denot)
    → StatesFrom (MapStep (goal.F-post g l.map_op)) l.state more zs
    → StatesFrom (MapStep (goal.F-post g l.map_op)) l.initial.state
    (l.yielded ++ more) (l.answers.items ++ zs)
