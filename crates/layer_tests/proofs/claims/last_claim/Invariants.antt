-- The seats stay seats of the shares.
use Rattle.parallel_shares.specs.Seats.{AreSeatsOf}
use Rattle.layer_tests.proofs.claims.last_claim.Given as goal

abbrev pub invariant-loop : goal.invariant-loop
invariant-loop g l = record {
  goes_on : (goal.iterator-loop g).can_next l.iterator'
      × (goal.iterator-loop g).is_finite l.iterator';
  seats : AreSeatsOf l.shares l.seats.items;
}
