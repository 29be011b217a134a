-- The exchange moves what the call is to move.
use Rattle.parallel_pool.proofs.{◌==◌, arith, either, WakeUp, steps, stays_set, waking}
use Rattle.parallel_pool.proofs.latch.core_latch.CoreLatch.wake_up.Goals as goal

pub compare_exchange-requires : goal.compare_exchange-requires
compare_exchange-requires c = (
  c.requires.0,
  omega (arith, c.args.self.now.one_word),
  steps WakeUp (λ n. either (n == 2) 0 n) waking _ _ _,
)

pub returns-clause-stays : goal.returns-clause-stays
returns-clause-stays c =
    stays_set WakeUp c.compare_exchange.result _ _ c.compare_exchange.ensures.2.0
