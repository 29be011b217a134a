-- What is accepted against a tree's commitment.
use Rattle.std.proofs.Common.{◌≡◌, ℕ, ◌<◌, List, [], Option, Some, IsSomeAnd, sym, subst, ◌∙◌, ap, arith, get_or, length}
use Rattle.merkle_tree.specs.Merkle.{Accepts, climb, commitment, leaf_digest, level_above, merkle_root, node_at, node_digest, tree_commitment}
use Rattle.merkle_tree.proofs.Levels.{some_root}

-- steps that lead to the tree's root are accepted against its commitment
pub accepted_by : (leaves : List (List ℕ)) (index : ℕ) (proof : List (Option (List ℕ)))
    (leaf : List ℕ) → index < length leaves
    → climb node_digest (length leaves) index (node_at leaves index) proof
    ≡ merkle_root node_digest leaves
    → leaf_digest leaf ≡ node_at leaves index
    → Accepts (tree_commitment leaves) (length leaves) index leaf proof
accepted_by leaves index proof leaf inside led own =
    let top = some_root node_digest [] leaves (omega arith) in
    let reached : climb node_digest (length leaves) index (leaf_digest leaf) proof
    ≡ Some (get_or (level_above node_digest (length leaves) leaves) 0 []) =
    ap (λ node. climb node_digest (length leaves) index node proof) own ∙ led ∙ top in (
      inside,
      subst (λ root. IsSomeAnd root
          (λ node. commitment (length leaves) (Some node) ≡ tree_commitment leaves)) (sym reached)
          (ap (commitment (length leaves)) (sym top)),
    )
