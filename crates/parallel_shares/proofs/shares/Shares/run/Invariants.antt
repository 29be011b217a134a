-- What the seat gained so far was cut, filled and finished, but for the open stretch.
use Rattle.parallel_shares.proofs.{◌≡◌, ℕ, List, ◌++◌, All, IfSome, MutBor, Range, IsSeatOf, LoadsGrow, plan_of, index_of, claims_of, IsFront, all_cells, stretch_of, Fills, Ends, Underway}
use Rattle.parallel_shares.proofs.shares.Shares.run.Given as goal

abbrev pub invariant-loop : goal.invariant-loop
invariant-loop g l = record {
  goes_on : (goal.iterator-loop g).can_next l.iterator'
      × (goal.iterator-loop g).is_finite l.iterator';
  seat : IsSeatOf l.self l.seat;
  index : index_of l.seat ≡ index_of l.fn.seat;
  loads : LoadsGrow l.fn.seat l.seat;
  accepts : IfSome l.opened
      (λ piece. (state : MutBor g.row.T.Denot) → goal.N-pre g l.finish state (g.P.Part.part_of (stretch_of piece)));
  chain : (gained : List (Range ℕ)) × (claims_of l.seat ≡ claims_of l.fn.seat ++ gained)
      × All (IsFront (plan_of l.self)) gained
      × Underway (Fills (goal.L-post g l.fill)) (Ends g.P.Part.part_of (goal.N-post g l.finish)) l.len l.fn.state
      (all_cells gained) l.opened l.results.items l.state;
}
