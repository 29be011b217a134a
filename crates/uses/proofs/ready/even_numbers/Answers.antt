-- The test answers whether its number is even.
use Rattle.std.proofs.Common.{rules, ℕ, ◌≡◌, ◌%◌}
use Rattle.std.specs.Prelude.{◌==◌}
use Rattle.std.specs.List.{filter}
use Rattle.parallel_bridge.proofs.OverLists.{fact_of_list}
use Rattle.uses.proofs.ready.even_numbers.Goals as goal

pub returns-clause-kept : goal.returns-clause-kept
returns-clause-kept g c = fact_of_list c.args.numbers.now
    (λ xs kept. kept.items ≡ filter (λ (x : ℕ). x % 2 == 0) xs) c.filter.result
    (c.filter.ensures.plain (λ (x : ℕ). x % 2 == 0) (λ x b k. search rules))
