-- the values and errors so far stand after those of the start
use Rattle.parallel_bridge.proofs.{TryMapBehind, ended}
use Rattle.parallel_bridge.proofs.list.try_map.try_map_iter.Given as goal

abbrev pub invariant-loop-item : goal.invariant-loop-item
invariant-loop-item g l = TryMapBehind (goal.F-post g l.map_op)
    (ended l.initial.values.items l.initial.failed) l.yielded (ended l.values.items l.failed)
