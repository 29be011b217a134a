-- The exchange moves what the call is to move, and what it found tells the result.
use Rattle.parallel_pool.proofs.{◌==◌, arith, either, GetSleepy, is_unset, steps, answers, stays_set, getting, unset_word}
use Rattle.parallel_pool.proofs.latch.core_latch.CoreLatch.get_sleepy.Goals as goal

pub compare_exchange-found-requires : goal.compare_exchange-found-requires
compare_exchange-found-requires c = (
  c.requires.0,
  omega (arith, c.args.self.now.one_word),
  steps GetSleepy (λ n. either (n == 0) 1 n) getting _ _ _,
)

pub returns-clause-call : goal.returns-clause-call
returns-clause-call c =
    answers GetSleepy 0 is_unset unset_word c.compare_exchange-found.result _ _
    c.compare_exchange-found.ensures.2.0

pub returns-clause-stays : goal.returns-clause-stays
returns-clause-stays c =
    stays_set GetSleepy c.compare_exchange-found.result _ _ c.compare_exchange-found.ensures.2.0
