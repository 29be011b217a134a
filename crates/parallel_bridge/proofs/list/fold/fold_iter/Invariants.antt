-- what is folded so far is reached by a chain over the items that came
use Rattle.parallel_bridge.proofs.{Chain}
use Rattle.parallel_bridge.proofs.list.fold.fold_iter.Given as goal

abbrev pub invariant-loop-item : goal.invariant-loop-item
invariant-loop-item g l = Chain (goal.F-post g l.fold_op) l.initial.value l.yielded l.value
