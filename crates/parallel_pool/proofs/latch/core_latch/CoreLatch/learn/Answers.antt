-- A new seat tells what the other has seen, and the load brings both together.
use Rattle.parallel_pool.proofs.{arith, refl, ap, ◌∙◌, phase_after, Longer, seats, latch_hears, latch_learns, learns_set}
use Rattle.parallel_pool.proofs.latch.core_latch.CoreLatch.learn.Goals as goal

pub split_seat-teller-requires : goal.split_seat-teller-requires
split_seat-teller-requires c = (
  c.requires.other.0,
  omega (arith, c.args.self.now.one_word),
  seats _ _ _ refl refl (λ _ begins. begins),
)

pub join_seat-requires : goal.join_seat-requires
join_seat-requires c =
    let made = c.split_seat-teller.ensures in (
      c.requires.seat.0,
      made.3 ∙ c.requires.other.0,
      ap (λ m. m.1) made.4,
      omega (arith, c.args.self.now.one_word),
      latch_hears _ _ _ _ (ap (λ m. m.0.own) made.4),
    )

pub load-requires : goal.load-requires
load-requires c = (
  c.join_seat.ensures.0 ∙ c.requires.seat.0,
  omega (arith, c.args.self.now.one_word),
  latch_learns _ _ _,
)

pub returns-clause-stays : goal.returns-clause-stays
returns-clause-stays c =
    let long : Longer c.join_seat.new.seat.me.0.seen c.join_seat.new.seat.me.0.heard
    c.load.new.seat.me.0.seen = c.load.ensures.2.0 in
    λ was. learns_set _ _ long.0 (ap (λ m. phase_after m.0.seen) c.join_seat.ensures.2 ∙ was)

pub returns-clause-told : goal.returns-clause-told
returns-clause-told c =
    let long : Longer c.join_seat.new.seat.me.0.seen c.join_seat.new.seat.me.0.heard
    c.load.new.seat.me.0.seen = c.load.ensures.2.0 in
    λ was. learns_set _ _ long.1 (ap (λ m. phase_after m.0.heard) c.join_seat.ensures.2
    ∙ (ap (λ m. phase_after m.0.seen) c.split_seat-teller.ensures.4 ∙ was))
