-- The steps so far lead from the leaf to the node at the place of the level.
use Rattle.std.proofs.Common.{[]}
use Rattle.merkle_tree.specs.Merkle.{levels_of, lowest, node_digest}
use Rattle.merkle_tree.proofs.Trees.{Leads}
use Rattle.merkle_tree.proofs.tree.proof_in.Given as goal

abbrev pub invariant-loop-number : goal.invariant-loop-number
invariant-loop-number l =
    Leads node_digest [] (lowest (levels_of l.levels)) l.fn.index l.number l.place l.proof.items
