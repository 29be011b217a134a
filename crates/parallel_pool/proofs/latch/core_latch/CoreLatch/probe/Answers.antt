-- The load moves nothing, and what it found tells the result.
use Rattle.parallel_pool.proofs.{◌==◌, arith, ap, refl, Probe, is_latched, steps, answers, found_set, probe_sees, latched_word}
use Rattle.parallel_pool.proofs.latch.core_latch.CoreLatch.probe.Goals as goal

pub load-requires : goal.load-requires
load-requires c =
    (c.requires.0, omega (arith, c.args.self.now.one_word), steps Probe (λ n. n) (λ _. refl) _ _ _)

pub returns-clause-call : goal.returns-clause-call
returns-clause-call c = answers Probe 3 is_latched latched_word c.load.result _ _ c.load.ensures.2.0

pub returns-clause-sees : goal.returns-clause-sees
returns-clause-sees c = probe_sees c.load.result _ _ c.load.ensures.2.0

pub returns-clause-stays : goal.returns-clause-stays
returns-clause-stays c =
    λ was. ap (λ n. n == 3) (found_set Probe c.load.result _ _ c.load.ensures.2.0 was)
