-- A level's own sibling leads to the node above.
use Rattle.std.proofs.Common.{arith, rules}
use Rattle.merkle_tree.specs.Merkle.{node_digest}
use Rattle.merkle_tree.proofs.Siblings.{step_alone, step_left, step_right}
use Rattle.merkle_tree.proofs.tree.sibling.Goals as goal

pub returns-then-not-has_sibling : goal.returns-then-not-has_sibling
returns-then-not-has_sibling c =
    step_alone node_digest _ c.args.level.now c.args.index c.requires (search rules)

pub returns-then-index-eq1 : goal.returns-then-index-eq1
returns-then-index-eq1 c =
    step_right node_digest _ c.args.level.now c.args.index c.requires (search rules)
    (omega arith)

pub returns-else-index-eq1 : goal.returns-else-index-eq1
returns-else-index-eq1 c =
    step_left node_digest _ c.args.level.now c.args.index c.requires (search rules)
    (omega arith)
