-- The closure answers by the order of numbers.
use Rattle.std.proofs.Common.{rules, ℕ, nat_lt}
use Rattle.std.proofs.lemmas.List.MinMax.{IsStrictWeakOrder-by_number}
use Rattle.parallel_bridge.proofs.OverLists.{fact_of_list}
use Rattle.parallel_calls.specs.Extremes.{LeastOf}
use Rattle.uses.proofs.ready.least.Goals as goal

pub returns-clause-least : goal.returns-clause-least
returns-clause-least g c = fact_of_list c.args.numbers.now (LeastOf nat_lt) c.min_by.result
    (c.min_by.ensures.least nat_lt (IsStrictWeakOrder-by_number (λ (n : ℕ). n))
    (λ x y o k. search rules))
