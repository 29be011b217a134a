-- A step adds the square, and a reduction adds two sums.
use Rattle.std.proofs.Common.{rules, ◌≡◌, ◌+◌, ◌*◌, ◌%◌, ◌^◌, ℕ, arith}
use Rattle.parallel_bridge.proofs.WrappingSums.{sum_of_list}
use Rattle.uses.proofs.folds.sum_of_squares.Goals as goal

pub returns-clause-sum : goal.returns-clause-sum
returns-clause-sum g c =
    sum_of_list _ (2 ^ 32) (λ (x : ℕ). x * x) _ _ _ c.fold.result c.fold.ensures.brackets
    (omega arith)
    (λ e k. search rules) (λ a x b k. let same : b ≡ (a + (x * x) % 2 ^ 32) % 2 ^ 32 = search rules
    in omega arith) (λ a b r k. search rules)
