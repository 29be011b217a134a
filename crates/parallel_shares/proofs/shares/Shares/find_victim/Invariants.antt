-- The shares so far were each loaded, but for the seat's own, and the best of them is known.
use Rattle.parallel_shares.proofs.{◌≡◌, known, has_emptied, own_share, IsSeatOf, IsSameSeat, HasLooked}
use Rattle.parallel_shares.proofs.shares.Shares.find_victim.Given as goal

abbrev pub invariant-loop-share : goal.invariant-loop-share
invariant-loop-share l = record {
  seat : IsSeatOf l.self l.seat;
  same : IsSameSeat l.fn.seat l.seat;
  emptied : has_emptied l.seat ≡ has_emptied l.fn.seat;
  looks : HasLooked l.self.plan (own_share l.self l.fn.seat) l.share (known l.fn.seat)
      (known l.seat) l.best;
}
