-- The items of the lists so far.
use Rattle.std.proofs.Common.{◌≡◌}
use Rattle.parallel_calls.specs.Flat.{items_of}
use Rattle.parallel_calls.proofs.flat_map.joined.Given as goal

abbrev pub invariant-loop-list : goal.invariant-loop-list
invariant-loop-list g l = l.all.items ≡ items_of l.yielded
