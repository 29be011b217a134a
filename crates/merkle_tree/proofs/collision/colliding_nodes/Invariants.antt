-- The steps so far lead to another node than the tree has at the place of the level.
use Rattle.std.proofs.Common.{[]}
use Rattle.merkle_tree.specs.Merkle.{levels_of, lowest, node_digest}
use Rattle.merkle_tree.proofs.CollidingNodes.{ReachesOtherNode}
use Rattle.merkle_tree.proofs.collision.colliding_nodes.Given as goal

abbrev pub invariant-loop-number : goal.invariant-loop-number
invariant-loop-number l = ReachesOtherNode node_digest [] (lowest (levels_of l.levels))
    l.fn.index l.fn.digest
    l.fn.proof l.number l.place l.reached
