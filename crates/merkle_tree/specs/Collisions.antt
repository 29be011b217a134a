-- Two different inputs with one digest.
use Rattle.std.specs.Prelude.{◌≡◌, ◌≢◌, ℕ, ◌%◌, ◌==◌, cond, List}
use Rattle.merkle_tree.specs.declared.collision.Children.{Children}
use Rattle.merkle_tree.specs.declared.collision.Collision.{Collision}
use Rattle.merkle_tree.specs.declared.collision.Collision.TheVariants.{Leaves, Nodes, Commitments}
use Rattle.merkle_tree.specs.declared.collision.Committed.{Committed}
use Rattle.merkle_tree.specs.Merkle.{commitment, committed_bytes, leaf_digest, node_digest}

-- a node at an index and its sibling, left before right
abbrev pub children_of : ℕ → List ℕ → List ℕ → Children
children_of index own sibling = cond (index % 2 == 1) (record { left = sibling; right = own })
    (record { left = own; right = sibling })

-- two pairs of nodes that differ, and have one digest above them
abbrev pub NodesCollide : Children → Children → Type 0
NodesCollide one other =
    (one ≢ other) × (node_digest one.left one.right ≡ node_digest other.left other.right)

-- the bytes that are hashed of two trees differ, and have one digest
abbrev pub CommitmentsCollide : Committed → Committed → Type 0
CommitmentsCollide one other =
    (committed_bytes one.count one.root ≢ committed_bytes other.count other.root)
    × (commitment one.count one.root ≡ commitment other.count other.root)

-- two leaves that differ, and have one digest; or two pairs of nodes; or the bytes hashed of two
-- trees
abbrev pub IsCollision : Collision → Type 0
IsCollision (Leaves one other) =
    (one.now ≢ other.now) × (leaf_digest one.now ≡ leaf_digest other.now)
IsCollision (Nodes one other) = NodesCollide one other
IsCollision (Commitments one other) = CommitmentsCollide one other
