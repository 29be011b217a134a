-- So far the seat has claimed nothing, and no share was loaded less often.
use Rattle.parallel_shares.proofs.{◌≡◌, IsSeatOf, LoadsGrow, index_of, claims_of}
use Rattle.parallel_shares.proofs.shares.Shares.claim.Given as goal

abbrev pub invariant-loop : goal.invariant-loop
invariant-loop g l = record {
  goes_on : (goal.iterator-loop g).can_next l.iterator'
      × (goal.iterator-loop g).is_finite l.iterator';
  seat : IsSeatOf l.self l.seat;
  index : index_of l.seat ≡ index_of l.fn.seat;
  claims : claims_of l.seat ≡ claims_of l.fn.seat;
  loads : LoadsGrow l.fn.seat l.seat;
}
