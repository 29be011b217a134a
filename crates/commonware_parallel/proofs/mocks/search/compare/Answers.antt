-- The run by the rule, and what the comparison said.
use Rattle.commonware_parallel.proofs.{rules, ◌∙◌, refl}
use Rattle.commonware_parallel.proofs.mocks.search.compare.Goals as goal

pub returns-then-eq-clause-compares : goal.returns-then-eq-clause-compares
returns-then-eq-clause-compares g c =
    let e = c.in_ok-explorer.ensures.explorer in
    (c.run.result, (_, (e.0 ∙ c.requires.workers, e.1, e.2, e.3), c.run.ensures), search rules)

pub returns-clause-compares : goal.returns-clause-compares
returns-clause-compares g c =
    let e = c.in_ok-explorer.ensures.explorer in (
      refl,
      c.run.result,
      (_, (e.0 ∙ c.requires.workers, e.1, e.2, e.3), c.run.ensures),
      search rules,
    )
