-- Each leaf is a digest, and the closure's one result is the digest of the two.
use Rattle.std.proofs.Common.{List, ℕ, ◌∙◌, ap, map, rules}
use Rattle.std.proofs.lemmas.Result.{IfOk-weaker}
use Rattle.std.specs.Borrow.{Bor}
use Rattle.parallel_bridge.proofs.Laws.{map_is_function}
use Rattle.merkle_tree.specs.Merkle.{leaf_digest, merkle_root, node_digest}
use Rattle.merkle_tree.proofs.Roots.{root_is}
use Rattle.merkle_tree.proofs.build.root.Goals as goal

pub returns-clause-root : goal.returns-clause-root
returns-clause-root g c =
    let digest = λ (leaf : Bor (List ℕ)). leaf_digest leaf.now in
    IfOk-weaker c.root_of_leaves.result _ _
    (λ root h. root_is node_digest _ (λ x y z k. search rules) _ root h.2.2
    ∙ ap (merkle_root node_digest) (map_is_function _ h.0 h.2.0 h.2.1 digest
    (λ x y within k. search rules) ∙ ap (map digest) h.1)) c.root_of_leaves.ensures.root
