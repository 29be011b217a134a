-- The test answers whether its number is even.
use Rattle.std.proofs.Common.{rules, ℕ, ◌≡◌, ◌%◌}
use Rattle.std.specs.Prelude.{◌==◌}
use Rattle.std.specs.List.{find}
use Rattle.parallel_bridge.proofs.OverLists.{fact_of_list}
use Rattle.uses.proofs.ready.first_even.Goals as goal

pub returns-clause-first : goal.returns-clause-first
returns-clause-first g c = fact_of_list c.args.numbers.now
    (λ xs found. found ≡ find (λ (x : ℕ). x % 2 == 0) xs) c.find_first.result
    (c.find_first.ensures.plain (λ (x : ℕ). x % 2 == 0) (λ x b k. search rules))
