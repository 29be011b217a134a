-- A new seat tells which gives the other has seen, and the load brings both together.
use Rattle.parallel_pool.proofs.{arith, ap, ◌∙◌, tells, count_hears, count_learns}
use Rattle.parallel_pool.proofs.latch.count_latch.CountLatch.learn.Goals as goal

pub split_seat-teller-requires : goal.split_seat-teller-requires
split_seat-teller-requires c =
    (c.requires.other.0, omega (arith, c.args.self.now.one_word), tells _ _ _)

pub join_seat-requires : goal.join_seat-requires
join_seat-requires c =
    let made = c.split_seat-teller.ensures in (
      c.requires.share.0,
      made.3 ∙ c.requires.other.0,
      ap (λ m. m.1) made.4,
      omega (arith, c.args.self.now.one_word),
      count_hears _ _ _ _ _ (ap (λ m. m.0.unspent) made.4),
    )

pub load-requires : goal.load-requires
load-requires c = (
  c.join_seat.ensures.0 ∙ c.requires.share.0,
  omega (arith, c.args.self.now.one_word),
  count_learns _ _ _ _,
)
