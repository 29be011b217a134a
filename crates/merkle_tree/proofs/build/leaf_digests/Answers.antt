-- Each result is the digest of its leaf.
use Rattle.std.proofs.Common.{List, ℕ, rules}
use Rattle.std.specs.Borrow.{Bor}
use Rattle.parallel_bridge.proofs.OverLists.{map_of_list}
use Rattle.merkle_tree.specs.Merkle.{leaf_digest}
use Rattle.merkle_tree.proofs.build.leaf_digests.Goals as goal

pub returns-clause-digests : goal.returns-clause-digests
returns-clause-digests g c = map_of_list _ _ (λ (leaf : Bor (List ℕ)). leaf_digest leaf.now)
    c.map_collect_vec.result c.map_collect_vec.ensures.answers (λ x y within k. search rules)
