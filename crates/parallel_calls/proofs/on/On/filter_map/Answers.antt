-- The values of the partition are those that the closure gives.
use Rattle.std.proofs.Common.{rules}
use Rattle.parallel_calls.proofs.FilteredItems.{plain_values, values_of_parts}
use Rattle.parallel_calls.proofs.on.On.filter_map.Goals as goal

pub returns-clause-values : goal.returns-clause-values
returns-clause-values g c =
    let w = c.in_ok-parts.ensures.answers in (
      w.0,
      w.1,
      values_of_parts (λ x o. goal.F-post g c.args.map_op x o) _ (λ x p k. search rules) w.0
          c.in_ok-parts.parts.0.items c.in_ok-parts.parts.1.items w.2,
    )

pub returns-clause-plain : goal.returns-clause-plain
returns-clause-plain g c f goes =
    let w = returns-clause-values g c in (
      w.0,
      w.1,
      plain_values (λ x o. goal.F-post g c.args.map_op x o) f goes w.0
          c.in_ok-parts.parts.0.items w.2,
    )
