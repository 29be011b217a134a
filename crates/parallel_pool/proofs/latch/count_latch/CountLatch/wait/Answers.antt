-- A look at the count brings a new seat, which has seen all gives.
use Rattle.parallel_pool.proofs.{arith, refl, founder, looks}
use Rattle.parallel_pool.proofs.latch.count_latch.CountLatch.wait.Goals as goal

pub load_new_seat-left-requires : goal.load_new_seat-left-requires
load_new_seat-left-requires g c = (
  omega (arith, c.args.self.now.one_word),
  looks _ _ (founder c.args.self.now.table.shared.key) refl,
)
