-- Each item is its own leaf.
use Rattle.commonware_parallel.proofs.{◌∙◌, rules, subst, IfOk-weaker, MerkleRoot, same_leaves}
use Rattle.commonware_parallel.proofs.merkle.blocks.root_by_blocks.Goals as goal

pub returns-clause-root : goal.returns-clause-root
returns-clause-root g c =
    let above = goal.F-post g c.args.combine in
    IfOk-weaker c.root_of_parts.result _ (MerkleRoot above c.args.leaves.items)
    (λ root h. subst (λ l. MerkleRoot above l root)
    (same_leaves _ (λ x y k. search rules) h.0 h.2.0 h.2.1 ∙ h.1 ∙ c.from_vec-parts.ensures)
    h.2.2) c.root_of_parts.ensures.root
