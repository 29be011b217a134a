-- The exchange loads nothing.
use Rattle.parallel_shares.proofs.{ap, View, shares_of, share_of, known, looks_kept}
use Rattle.parallel_shares.proofs.shares.Shares.try_steal.Goals as goal

pub returns-then-take_back-victim-clause-looks : goal.returns-then-take_back-victim-clause-looks
returns-then-take_back-victim-clause-looks c =
    let plan = c.args.self.now.plan in
    let seat = c.args.seat.now in
    let met = c.take_back.ensures.met.0 c.if-take_back-victim.true in
    looks_kept plan (share_of plan seat.index) (shares_of plan) (known seat)
    (known c.find_victim.new.seat) (known c.take_back.new.seat)
    (ap (λ (v : View). v.words) met.0)
    (ap (λ (v : View). v.loads) met.0)
    (ap (λ (v : View). v.since) met.0) c.in-Some.ensures.looks

pub returns-else-take_back-victim-clause-looks : goal.returns-else-take_back-victim-clause-looks
returns-else-take_back-victim-clause-looks c =
    let plan = c.args.self.now.plan in
    let seat = c.args.seat.now in
    let met = c.take_back.ensures.met.1 c.if-take_back-victim.false in
    looks_kept plan (share_of plan seat.index) (shares_of plan) (known seat)
    (known c.find_victim.new.seat) (known c.take_back.new.seat)
    (ap (λ (v : View). v.words) met.0)
    (ap (λ (v : View). v.loads) met.0)
    (ap (λ (v : View). v.since) met.0) c.in-Some.ensures.looks
