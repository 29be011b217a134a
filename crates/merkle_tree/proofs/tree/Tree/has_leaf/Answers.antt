-- The lowest level has the leaves.
use Rattle.std.proofs.Common.{◌≡◌, ◌<◌, ◌↔◌, IsTrue, length, rules, subst}
use Rattle.merkle_tree.specs.Merkle.{node_at}
use Rattle.merkle_tree.proofs.tree.Tree.has_leaf.Goals as goal

pub returns : goal.returns
returns c =
    let same : c.lowest_of.result.now ≡ c.args.self.now = search rules in
    let index = c.args.index in
    subst (λ d. IsTrue c.is_at.result
    ↔ ((index < length c.args.self.now) × (d ≡ node_at c.args.self.now index)))
    c.leaf_digest.ensures
    (subst (λ xs. IsTrue c.is_at.result
    ↔ ((index < length xs) × (c.leaf_digest.result ≡ node_at xs index))) same
    c.is_at.ensures)
