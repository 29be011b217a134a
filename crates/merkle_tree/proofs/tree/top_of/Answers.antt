-- The first node of the highest level is the root.
use Rattle.std.proofs.Common.{◌-◌, ◌∙◌, ap, arith, length}
use Rattle.merkle_tree.specs.Merkle.{first_node}
use Rattle.merkle_tree.proofs.Trees.{height, top_items}
use Rattle.merkle_tree.proofs.tree.top_of.Goals as goal

pub returns : goal.returns
returns c =
    c.copied.ensures ∙ c.first.ensures.value ∙ ap first_node c.deref.ensures.value
    ∙ top_items c.args.levels.now (length c.args.levels.now - 1) _ c.requires
    (omega (arith, c.requires.some, height c.args.levels.now)) c.index-levels-levels.is
