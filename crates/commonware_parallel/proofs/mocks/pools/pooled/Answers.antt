-- All but one of what was made stays.
use Rattle.commonware_parallel.proofs.{◌∙◌, ap}
use Rattle.commonware_parallel.specs.Rayon.{RayonView, chooses_of}
use Rattle.commonware_parallel.proofs.mocks.pools.pooled.Goals as goal

pub returns-clause-made : goal.returns-clause-made
returns-clause-made g c =
    let e = c.with_parallelism.ensures in
    let made = c.in_ok-strategy.ensures.made in (
      ap (λ (s : RayonView). s.planning) e,
      ap (λ (s : RayonView). s.threads) e ∙ made.1,
      ap (λ (s : RayonView). s.starts) e ∙ made.2,
      ap chooses_of e ∙ made.3,
    )
