-- Each turn passes over the seat's own share, or loads another one and keeps the better.
use Rattle.parallel_shares.proofs.{rules, ◌≡◌, ◌≢◌, ◌<◌, ◌∙◌, length, sym, arith, shares_of, share_of, known, passes_own, better, no_better}
use Rattle.parallel_shares.proofs.shares.Shares.find_victim.Goals as goal
use Rattle.parallel_shares.proofs.shares.Shares.find_victim.Goals.{then-share-own+then-is_better, then-share-own+else-is_better, else-share-own}

pub loop-share-preserved : goal.loop-share-preserved
loop-share-preserved c =
    let plan = c.args.self.now.plan in
    let own = share_of plan c.args.seat.now.index in
    let n = c.loop-share.share in
    let first = known c.args.seat.now in
    let seat = known c.loop-share.seat in
    let best = c.loop-share.best in
    let i = c.loop-share.invariant in
    let exists : n < shares_of plan =
    omega (arith, c.loop-share-test.true, c.shares-share-end.ensures.shares) in
    let fits : n < length seat.words = omega (arith, i.seat.words, exists) in
    let counts : n < length seat.loads = omega (arith, i.seat.loads, exists) in
    elim c.if-share-own.branch [
      | then-share-own+then-is_better w ↦
          let apart : n ≢ own = λ is. w.if-share-own.true (is ∙ sym c.share_of-own.ensures) in
          let now = w.look_at-word in
          rw (w.seat-is, w.best-is)
          (record {
            seat = now.ensures.seat;
            same = (now.ensures.same.0 ∙ i.same.0, now.ensures.same.1 ∙ i.same.1);
            emptied = now.ensures.emptied ∙ i.emptied;
            looks = rw now.ensures.view
                (better plan own n first seat best i.looks now.result apart fits counts
                now.ensures.within now.ensures.splits
                (rw w.if-is_better.true at w.is_better.ensures));
          })
      | then-share-own+else-is_better w ↦
          let apart : n ≢ own = λ is. w.if-share-own.true (is ∙ sym c.share_of-own.ensures) in
          let now = w.look_at-word in
          rw (w.seat-is, w.best-is)
          (record {
            seat = now.ensures.seat;
            same = (now.ensures.same.0 ∙ i.same.0, now.ensures.same.1 ∙ i.same.1);
            emptied = now.ensures.emptied ∙ i.emptied;
            looks = rw now.ensures.view
                (no_better plan own n first seat best i.looks now.result apart fits counts
                now.ensures.within now.ensures.splits
                (rw w.if-is_better.false at w.is_better.ensures));
          })
      | else-share-own w ↦
          let is : n ≡ own = omega (arith, w.if-share-own.false, c.share_of-own.ensures) in
          rw (w.seat-is, w.best-is)
          (record {
            seat = i.seat;
            same = i.same;
            emptied = i.emptied;
            looks = passes_own plan own n first seat best i.looks is;
          })
    ]

pub loop-share-init : goal.loop-share-init
loop-share-init c = search rules
