-- a chain from here over more items is one from the start over the items so far, and more
use Rattle.parallel_bridge.proofs.{List, ◌++◌, FoldStep, StateChain}
use Rattle.parallel_bridge.proofs.list.fold_init.fold_init_iter.Given as goal

abbrev pub invariant-loop-item : goal.invariant-loop-item
invariant-loop-item g l = (more : List g.row.I-Item.Denot) (b : g.row.R.Denot)
    → StateChain (FoldStep (goal.F-post g l.fold_op)) l.state l.value more b
    → StateChain (FoldStep (goal.F-post g l.fold_op)) l.initial.state
    l.initial.value (l.yielded ++ more) b
