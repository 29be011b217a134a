-- The list so far is what the seat has claimed.
use Rattle.shapes_command.proofs.{◌≡◌, IsSeatOf, IsSameSeat, claims_of}
use Rattle.shapes_command.proofs.drain.work.Given as goal

abbrev pub invariant-loop : goal.invariant-loop
invariant-loop g l = record {
  goes_on : (goal.iterator-loop g).can_next l.iterator'
      × (goal.iterator-loop g).is_finite l.iterator';
  seat : IsSeatOf l.shares l.seat;
  same : IsSameSeat l.fn.seat l.seat;
  claims : claims_of l.seat ≡ l.claims.items;
}
