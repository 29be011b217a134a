-- the lists have what the items so far put after those of the start
use Rattle.parallel_bridge.proofs.{PartitionOnto}
use Rattle.parallel_bridge.proofs.list.partition.partition_iter.Given as goal

abbrev pub invariant-loop-item : goal.invariant-loop-item
invariant-loop-item g l = PartitionOnto
    (goal.F-post g l.map_op) l.initial.values.items l.initial.keys.items l.yielded
    l.values.items l.keys.items
