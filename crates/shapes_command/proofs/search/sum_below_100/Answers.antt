-- A step adds the number, and a reduction adds two sums.
use Rattle.shapes_command.proofs.{rules, ◌≡◌, ◌%◌, ◌^◌, ◌∙◌, ℕ, arith, refl, sum_by, range_with_len, IfOk-weaker}
use Rattle.parallel_bridge.proofs.WrappingSums.{sum_of_list}
use Rattle.shapes_command.proofs.search.sum_below_100.Goals as goal

below_100 : sum_by (λ (x : ℕ). x) (range_with_len 0 100) % 2 ^ 64 ≡ 4950
below_100 = refl

pub returns : goal.returns
returns g c =
    IfOk-weaker c.fold.result _ _ (λ r h. h ∙ below_100)
    (sum_of_list (range_with_len 0 100) (2 ^ 64)
    (λ (x : ℕ). x) _ _ _ c.fold.result c.fold.ensures.brackets (omega arith)
    (λ e k. search rules) (λ a x b k. search rules) (λ a b r k. search rules))
