-- the items so far are a permutation that keeps ties in their order
use Rattle.std.proofs.Common.{length, ◌-◌, ◌<◌}
use Rattle.std.specs.List.Sorted.{IsPermutation, IsStableByClosure}
use Rattle.parallel_bridge.proofs.list.sort.sort_rounds.Given as goal

abbrev pub invariant-loop-size : goal.invariant-loop-size
invariant-loop-size g l = (0 < l.size) × IsPermutation l.initial.items l.items
    × IsStableByClosure g.C.FnMut l.compare l.initial.items l.items

abbrev pub decreases-loop-size : goal.decreases-loop-size
decreases-loop-size g l = length l.items - l.size
