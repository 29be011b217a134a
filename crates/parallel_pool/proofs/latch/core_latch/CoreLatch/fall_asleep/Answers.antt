-- The exchange moves what the call is to move, and what it found tells the result.
use Rattle.parallel_pool.proofs.{◌==◌, arith, either, FallAsleep, is_sleepy, steps, answers, stays_set, falling, sleepy_word}
use Rattle.parallel_pool.proofs.latch.core_latch.CoreLatch.fall_asleep.Goals as goal

pub compare_exchange-found-requires : goal.compare_exchange-found-requires
compare_exchange-found-requires c = (
  c.requires.0,
  omega (arith, c.args.self.now.one_word),
  steps FallAsleep (λ n. either (n == 1) 2 n) falling _ _ _,
)

pub returns-clause-call : goal.returns-clause-call
returns-clause-call c =
    answers FallAsleep 1 is_sleepy sleepy_word c.compare_exchange-found.result _ _
    c.compare_exchange-found.ensures.2.0

pub returns-clause-stays : goal.returns-clause-stays
returns-clause-stays c =
    stays_set FallAsleep c.compare_exchange-found.result _ _ c.compare_exchange-found.ensures.2.0
