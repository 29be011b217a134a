-- A seat that has seen nothing keeps the rule.
use Rattle.parallel_pool.proofs.{arith, refl, seats}
use Rattle.parallel_pool.proofs.latch.core_latch.CoreLatch.seat.Goals as goal

pub split_seat-requires : goal.split_seat-requires
split_seat-requires c = (
  c.requires.0,
  omega (arith, c.args.self.now.one_word),
  seats _ _ _ refl refl (λ log _. (log, refl)),
)
