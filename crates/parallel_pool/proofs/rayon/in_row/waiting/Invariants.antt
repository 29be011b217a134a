-- A place for each item so far.
use Rattle.std.proofs.Common.{◌≡◌, map}
use Rattle.parallel_pool.specs.InRow.{waits}
use Rattle.parallel_pool.proofs.rayon.in_row.waiting.Given as goal

abbrev pub invariant-loop-item : goal.invariant-loop-item
invariant-loop-item g l = l.places.items ≡ map waits l.yielded
