-- A step adds the number, and a reduction adds two sums.
use Rattle.std.proofs.Common.{rules, ◌≡◌, ◌%◌, ◌^◌, ◌∙◌, ℕ, arith, ap, refl, fold, sum_by}
use Rattle.std.specs.List.{range_with_len}
use Rattle.std.proofs.lemmas.Result.{IfOk-weaker}
use Rattle.parallel_bridge.proofs.OverLists.{in_one}
use Rattle.parallel_bridge.proofs.WrappingSums.{sum_of_list}
use Rattle.parallel_bridge.specs.declared.path.Path.TheVariants.{Serial}
use Rattle.commonware_parallel.proofs.Picks.{explored_serially}
use Rattle.uses.proofs.Searched.{adds, chain_adds}
use Rattle.uses.proofs.explored.sum_from.Goals as goal

below_100 : sum_by (λ (x : ℕ). x) (range_with_len 0 100) % 2 ^ 64 ≡ 4950
below_100 = refl

from_10 : fold adds 10 (range_with_len 0 100) ≡ 4960
from_10 = refl

pub returns-clause-neutral : goal.returns-clause-neutral
returns-clause-neutral g c = λ zero.
    IfOk-weaker c.fold.result _ _ (λ r h. h ∙ below_100)
    (sum_of_list (range_with_len 0 100) (2 ^ 64)
    (λ (x : ℕ). x) _ _ _ c.fold.result c.fold.ensures.brackets (omega arith)
    (λ e k. search rules) (λ a x b k. search rules) (λ a b r k. search rules))

pub returns-clause-serial : goal.returns-clause-serial
returns-clause-serial g c = λ ten serial.
    IfOk-weaker c.fold.result _ _
    (λ r h.
    let serially : h.2.0 ≡ Serial = explored_serially c.args.explorer.now _ _ h.2.0 serial h.2.1 in
    let segment = in_one _ _ _ _ h.2.0 h.0 r h.2.2.1 serially in
    let begins : segment.0 ≡ 10 = search rules in
    let summed : r ≡ fold adds segment.0 h.0 =
    chain_adds _ (λ a x b k. search rules) h.0 segment.0 r segment.2 in
    summed ∙ ap (λ a. fold adds a h.0) begins ∙ ap (λ xs. fold adds 10 xs) h.1 ∙ from_10)
    c.fold.ensures.along
