-- what is folded so far is reached from the start over the items that came
use Rattle.parallel_bridge.proofs.{TryContinues}
use Rattle.parallel_bridge.proofs.list.try_fold.try_fold_iter.Given as goal

abbrev pub invariant-loop-item : goal.invariant-loop-item
invariant-loop-item g l =
    TryContinues (goal.F-post g l.fold_op) l.initial.control l.yielded l.control
