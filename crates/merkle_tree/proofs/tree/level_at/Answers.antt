-- Each level is what it is to be.
use Rattle.std.proofs.Common.{◌∙◌}
use Rattle.merkle_tree.proofs.Trees.{level_items}
use Rattle.merkle_tree.proofs.tree.level_at.Goals as goal

pub returns : goal.returns
returns c = c.as_slice.ensures.value ∙ level_items c.args.levels.now c.args.number _ c.requires.tree
    c.requires.there c.index-levels-number.is
