-- Each seat gets the next number of the first view, and the last seat is what is left of it.
use Rattle.parallel_shares.proofs.{◌≡◌, ◌+◌, ◌-◌, ◌<◌, ◌∷◌, [], ◌∙◌, ap, arith, fresh_view, undealt, dealt_from, dealt, IsSharingOf, some_shares, splits, splits_spaced, rest_dealt}
use Rattle.parallel_shares.proofs.{first_dealt, last_left, is_seat, is_fresh, Dealt, dealt_none, dealt_more, all_dealt}
use Rattle.parallel_shares.proofs.shares.Shares.deal.Goals as goal
use Rattle.parallel_shares.proofs.shares.Shares.deal.Goals.{In_ok-push-2}

pub loop-index-init : goal.loop-index-init
loop-index-init c = record {
  table = c.requires.table;
  view = c.requires.view;
  seats = dealt_none c.args.self.now c.in_ok-seats.seats.items c.in_ok-seats.ensures.items;
}

pub split_seat-seat-requires : goal.split_seat-seat-requires
split_seat-seat-requires c =
    let shares = c.args.self.now in
    let view = ap (λ m. m.0) c.loop-index.invariant.view in
    let left = undealt shares.plan c.loop-index.index in (
      c.loop-index.invariant.table,
      omega (arith, shares.words, some_shares shares.plan shares.sound),
      rw (shares.key, view) (splits_spaced (IsSharingOf shares.plan) c.loop-index.first.id left
          (dealt_from left) (dealt left) (splits shares.plan shares.sound c.loop-index.first.id
          c.loop-index.index)),
    )

pub seated-requires : goal.seated-requires
seated-requires c =
    let shares = c.args.self.now in
    let view = ap (λ m. m.0) c.loop-index.invariant.view in
    let more : c.loop-index.index < shares.plan.workers =
    omega (arith, c.workers-workers.ensures) in (
      shares.plan,
      c.split_seat-seat.ensures.4 ∙ ap (λ v. (dealt v, [])) view
          ∙ ap (λ v. (v, [])) (first_dealt shares.plan c.loop-index.index more),
    )

pub loop-index-preserved : goal.loop-index-preserved
loop-index-preserved c =
    let shares = c.args.self.now in
    let index = c.loop-index.index in
    let i = c.loop-index.invariant in
    let view = ap (λ m. m.0) i.view in
    let more : index < shares.plan.workers = omega (arith, c.workers-workers.ensures) in
    let x = c.seated.result in
    let made = c.seated.ensures in
    let split = c.split_seat-seat.ensures in
    let table : x.seat.table_id ≡ shares.table.shared.table_id = ap (λ s. s.table_id) made.0
    ∙ split.3 ∙ i.table in
    let own : c.split_seat-seat.result.me ≡ (fresh_view shares.plan (index ∷ []), []) = split.4
    ∙ ap (λ v. (dealt v, [])) view ∙ ap (λ v. (v, [])) (first_dealt shares.plan index more) in
    let me : x.seat.me ≡ (fresh_view shares.plan (index ∷ []), []) = ap (λ s. s.me) made.0 ∙ own in
    let left : c.split_seat-seat.new.seat.me ≡ (undealt shares.plan (index + 1), []) = split.2
    ∙ ap (λ m. (dealt_from m.0, m.1)) i.view
    ∙ ap (λ v. (v, [])) (rest_dealt shares.plan index more) in
    record {
      table = split.0 ∙ i.table;
      view = left;
      seats = dealt_more shares index c.loop-index.seats.items c.push.new.self.items x i.seats
          (is_seat shares x index table made.1 more me made.2 made.3) made.1
          (is_fresh shares x index table made.1 more me made.2 made.3) c.in_ok-push.ensures.items;
    }

pub seated-requires-2 : goal.seated-requires-2
seated-requires-2 c =
    let plan = c.args.self.now.plan in
    let last : c.loop-index.index + 1 ≡ plan.workers =
    omega (arith, c.workers-workers.ensures, c.args.self.now.sound.workers_count) in
    let number : c.loop-index.index ≡ c.workers-workers.result - 1 =
    omega (arith, c.workers-workers.ensures, last) in (
      plan,
      c.loop-index.invariant.view ∙ ap (λ v. (v, [])) (last_left plan c.loop-index.index last)
          ∙ ap (λ n. (fresh_view plan (n ∷ []), [])) number,
    )

-- the number that is left when the others are dealt
last_number : (c : In_ok-push-2) → c.loop-index.index + 1 ≡ c.args.self.now.plan.workers
last_number c =
    let shares = c.args.self.now in
    omega (arith, c.workers-workers.ensures, shares.sound.workers_count)

-- all seats are dealt
all_seats : (c : In_ok-push-2)
    → Dealt c.args.self.now (c.loop-index.index + 1) c.push-2.new.self.items
all_seats c =
    let shares = c.args.self.now in
    let index = c.loop-index.index in
    let i = c.loop-index.invariant in
    let last = last_number c in
    let x = c.seated-2.result in
    let made = c.seated-2.ensures in
    let exists : index < shares.plan.workers = omega (arith, last) in
    let at : x.index ≡ index = omega (arith, made.1, c.workers-workers.ensures, last) in
    let table : x.seat.table_id ≡ shares.table.shared.table_id = ap (λ s. s.table_id) made.0
    ∙ i.table in
    let me : x.seat.me ≡ (fresh_view shares.plan (index ∷ []), []) = ap (λ s. s.me) made.0 ∙ i.view
    ∙ ap (λ v. (v, [])) (last_left shares.plan index last) in
    dealt_more shares index c.loop-index.seats.items c.push-2.new.self.items x i.seats
    (is_seat shares x index table at exists me made.2 made.3) at
    (is_fresh shares x index table at exists me made.2 made.3) c.in_ok-push-2.ensures.items

pub returns-clause-seats : goal.returns-clause-seats
returns-clause-seats c =
    all_dealt c.args.self.now (c.loop-index.index + 1) c.push-2.new.self.items
    (last_number c) (all_seats c)

pub returns-clause-fresh : goal.returns-clause-fresh
returns-clause-fresh c = (all_seats c).fresh
