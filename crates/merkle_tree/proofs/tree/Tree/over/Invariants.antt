-- The levels so far, and the next one.
use Rattle.std.proofs.Common.{◌≡◌, length}
use Rattle.merkle_tree.specs.Merkle.{AreLevels, level_above, levels_of, node_digest}
use Rattle.merkle_tree.proofs.tree.Tree.over.Given as goal

abbrev pub invariant-levels : goal.invariant-levels
invariant-levels g l = record {
  so_far : AreLevels l.fn.leaves.items (levels_of l.levels.items);
  here : l.level.items ≡ level_above node_digest (length l.levels.items) l.fn.leaves.items;
}

abbrev pub decreases-levels : goal.decreases-levels
decreases-levels g l = length l.level.items
