-- Each result is the node at its place of the next level.
use Rattle.std.proofs.Common.{◌≡◌, ◌∙◌, ◌-◌, ℕ, arith, length, rules}
use Rattle.std.proofs.lemmas.Result.{IfOk-weaker}
use Rattle.parallel_bridge.proofs.OverLists.{map_of_list}
use Rattle.merkle_tree.specs.Merkle.{next_level, node_at, node_digest}
use Rattle.merkle_tree.proofs.TreeConstruction.{by_indices}
use Rattle.merkle_tree.proofs.Levels.{length-next_level}
use Rattle.merkle_tree.proofs.build.next_level.Goals as goal

pub map_collect_vec-requires-clause-accepts : goal.map_collect_vec-requires-clause-accepts
map_collect_vec-requires-clause-accepts g c = λ κs within x may.
    omega (arith, may.1, c.div_ceil.ensures)

pub returns-clause-next : goal.returns-clause-next
returns-clause-next g c =
    let next = next_level node_digest c.args.below.now in
    let counted : c.div_ceil.result - 0 ≡ length next =
    omega (arith, c.div_ceil.ensures, length-next_level node_digest c.args.below.now) in
    IfOk-weaker c.map_collect_vec.result _ _
    (λ level h. h ∙ by_indices _ next (c.div_ceil.result - 0) counted)
    (map_of_list _ _ (λ (i : ℕ). node_at next i) c.map_collect_vec.result
    c.map_collect_vec.ensures.answers (λ x y within k. search rules))
