-- The swap sets the latch, and what it found tells the result.
use Rattle.parallel_pool.proofs.{◌==◌, arith, ap, refl, Set, is_sleeping, steps, answers, found_set, sees_set, sleeping_word}
use Rattle.parallel_pool.proofs.latch.core_latch.CoreLatch.set.Goals as goal

pub swap-requires : goal.swap-requires
swap-requires c =
    (c.requires.0, omega (arith, c.args.self.now.one_word), steps Set (λ _. 3) (λ _. refl) _ _ _)

pub returns-clause-call : goal.returns-clause-call
returns-clause-call c = answers Set 2 is_sleeping sleeping_word c.swap.result _ _ c.swap.ensures.2.0

pub returns-clause-sees : goal.returns-clause-sees
returns-clause-sees c = sees_set c.swap.result _ _ c.swap.ensures.2.0

pub returns-clause-again : goal.returns-clause-again
returns-clause-again c =
    λ was. ap (λ n. n == 2) (found_set Set c.swap.result _ _ c.swap.ensures.2.0 was)
