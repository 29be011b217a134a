-- The seats so far.
use Rattle.std.proofs.Common.{◌≡◌, map}
use Rattle.bench.specs.Driven.{seat_of}
use Rattle.bench.proofs.soak.gather.Given as goal

abbrev pub invariant-loop-part : goal.invariant-loop-part
invariant-loop-part l = l.seats.items ≡ map seat_of l.yielded
