-- The test answers whether its number is even, and a slice has fewer than 2 to the power of 64.
use Rattle.std.proofs.Common.{rules, ℕ, ◌≡◌, ◌%◌, ◌<◌, ◌^◌, length}
use Rattle.std.specs.Prelude.{◌==◌, count_by}
use Rattle.std.proofs.lemmas.Result.{IfOk-weaker}
use Rattle.parallel_bridge.proofs.OverLists.{fact_of_list}
use Rattle.uses.proofs.ready.count_even.Goals as goal

pub returns-clause-counted : goal.returns-clause-counted
returns-clause-counted g c =
    let short : length c.args.numbers.now < 2 ^ 64 = search rules in
    IfOk-weaker c.count.result _ _ (λ n h. h short) (fact_of_list c.args.numbers.now
    (λ xs n. length xs < 2 ^ 64 → n ≡ count_by (λ (x : ℕ). x % 2 == 0) xs) c.count.result
    (c.count.ensures.exact (λ (x : ℕ). x % 2 == 0) (λ x b k. search rules)))
