-- The seats stay seats of the shares.
use Rattle.parallel_shares.specs.Seats.{AreSeatsOf}
use Rattle.layer_tests.proofs.memory.use_shares.Given as goal

abbrev pub invariant-loop : goal.invariant-loop
invariant-loop g l = AreSeatsOf l.shares l.seats.items
