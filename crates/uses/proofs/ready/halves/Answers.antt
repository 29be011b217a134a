-- The closure answers by the function.
use Rattle.std.proofs.Common.{rules, ◌≡◌}
use Rattle.parallel_bridge.specs.Outcomes.{listed}
use Rattle.parallel_bridge.proofs.OverLists.{outcome_of_list}
use Rattle.parallel_calls.specs.Functions.{try_map}
use Rattle.uses.specs.Ready.{half_of}
use Rattle.uses.proofs.ready.halves.Goals as goal

pub returns-clause-halves : goal.returns-clause-halves
returns-clause-halves g c = outcome_of_list c.args.numbers.now
    (λ xs out. listed out ≡ try_map half_of xs) c.try_map.result
    (c.try_map.ensures.plain half_of (λ x r k. search rules))
