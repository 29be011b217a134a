-- The cells of the claim so far were filled after those from before.
use Rattle.parallel_shares.proofs.{◌-◌, ◌≤◌, IfSome, MutBor, range_with_len, stretch_of, Fills, Ends, GoesOn}
use Rattle.parallel_shares.proofs.shares.run.fill_claim.Given as goal

abbrev pub invariant-loop-at : goal.invariant-loop-at
invariant-loop-at g l = record {
  begun : l.claim.start ≤ l.at;
  within : l.at - l.claim.start ≤ l.claim.end - l.claim.start;
  accepts : IfSome l.opened
      (λ piece. (state : MutBor g.row.T.Denot) → goal.N-pre g l.finish state (g.P.Part.part_of (stretch_of piece)));
  chain : GoesOn (Fills (goal.L-post g l.fill)) (Ends g.P.Part.part_of (goal.N-post g l.finish)) l.len
      (range_with_len l.claim.start (l.at - l.claim.start)) l.fn.opened l.fn.results.items
      l.fn.state l.opened l.results.items l.state;
}

abbrev pub decreases-loop-at : goal.decreases-loop-at
decreases-loop-at g l = l.claim.end - l.at
