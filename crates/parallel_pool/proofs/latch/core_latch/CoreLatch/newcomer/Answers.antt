-- A seat that has seen nothing keeps the rule.
use Rattle.parallel_pool.proofs.{arith, enters}
use Rattle.parallel_pool.proofs.latch.core_latch.CoreLatch.newcomer.Goals as goal

pub load_new_seat-seat-requires : goal.load_new_seat-seat-requires
load_new_seat-seat-requires c = (omega (arith, c.args.self.now.one_word), enters _)
