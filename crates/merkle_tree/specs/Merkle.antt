-- A Merkle tree: a leaf is a string of bytes, and a node a digest. A leaf's digest is that of the
-- byte 0 and the leaf, an inner node that of the byte 1 and the two nodes below it, and what is
-- published of a tree that of the byte 2, the number of its leaves and its root, so that none of
-- the three is hashed as another is.
use Rattle.std.specs.Prelude.{◌≡◌, ℕ, zero, suc, ◌+◌, ◌-◌, ◌/◌, ◌%◌, ◌<◌, ◌≤◌, Bool, cond, ◌||◌, ◌==◌, nat_lt, List, [], ◌∷◌, ◌++◌, map, length, Option, Some, None, Vec, slice_get, slice_index_or, IfSome, IsSomeAnd}
use Rattle.std.specs.Int.{div_ceil, to_be_bytes, w64}
use Rattle.std.specs.Option.{option_and_then}
use Rattle.std.specs.Borrow.{Bor}
use Rattle.std.specs.declared.alloc.Global.{Global}
use Rattle.sha2.specs.Sha256.{sha256}

-- the digest of a leaf
abbrev pub leaf_digest : List ℕ → List ℕ
leaf_digest bytes = sha256 (0 ∷ bytes)

-- the digest of an inner node, from the left and the right one below it
abbrev pub node_digest : List ℕ → List ℕ → List ℕ
node_digest left right = sha256 (1 ∷ (left ++ right))

-- the digests of leaves that are borrowed
abbrev pub leaf_digests : List (Bor (List ℕ)) → List (List ℕ)
leaf_digests leaves = map (λ (leaf : Bor (List ℕ)). leaf_digest leaf.now) leaves

-- the node at an index of a level
abbrev pub node_at : List (List ℕ) → ℕ → List ℕ
node_at level index = slice_index_or level index []

-- the next level: neighbours combined in pairs, left before right, an odd last one unchanged
unfoldable pub next_level : {X : Type 0} → (X → X → X) → List X → List X
next_level node [] = []
next_level node (x ∷ []) = x ∷ []
next_level node (x ∷ (y ∷ xs)) = node x y ∷ next_level node xs

-- the level that is that many levels above the leaves
unfoldable pub level_above : {X : Type 0} → (X → X → X) → ℕ → List X → List X
level_above node zero leaves = leaves
level_above node (suc n) leaves = next_level node (level_above node n leaves)

-- the first node of a level, where there is one
abbrev pub first_node : {X : Type 0} → List X → Option X
first_node level = slice_get level 0

-- the root: the one node of the level that is as many levels above the leaves as there are leaves,
-- and none where there is no leaf. A level of one node is its own next level, and a longer one is
-- longer than its next, so that by then there is one node.
abbrev pub merkle_root : {X : Type 0} → (X → X → X) → List X → Option X
merkle_root node leaves = first_node (level_above node (length leaves) leaves)

-- a root's own bytes, and none where there is no root
abbrev pub root_bytes : Option (List ℕ) → List ℕ
root_bytes (Some root) = root
root_bytes None = []

-- what is hashed of a tree to be published: the byte 2, the number of its leaves as 8 bytes, the
-- highest first, and the root, of which there is none where there is no leaf
abbrev pub committed_bytes : ℕ → Option (List ℕ) → List ℕ
committed_bytes count root = 2 ∷ (to_be_bytes w64 count ++ root_bytes root)

-- the commitment to a number of leaves and to a root
abbrev pub commitment : ℕ → Option (List ℕ) → List ℕ
commitment count root = sha256 (committed_bytes count root)

-- the commitment to a tree, from the digests of its leaves
abbrev pub tree_commitment : List (List ℕ) → List ℕ
tree_commitment leaves = commitment (length leaves) (merkle_root node_digest leaves)

-- whether a node at an index of a level of `count` nodes has a sibling: each but an odd last one
abbrev pub has_sibling : ℕ → ℕ → Bool
has_sibling count index = (index % 2 == 1) || nat_lt (index + 1) count

-- the node above a node and its sibling: a node at an odd index is the right one of the two
abbrev pub joined : {X : Type 0} → (X → X → X) → ℕ → X → X → X
joined node index own sibling = cond (index % 2 == 1) (node sibling own) (node own sibling)

-- the node one level up, by a step of a proof: the sibling where there is one, and nothing where
-- the node goes up unchanged. Another step leads nowhere.
abbrev pub one_up : {X : Type 0} → (X → X → X) → ℕ → ℕ → X → Option X → Option X
one_up node count index own (Some sibling) =
    cond (has_sibling count index) (Some (joined node index own sibling)) None
one_up node count index own None = cond (has_sibling count index) None (Some own)

-- where the steps of a proof lead from a node at an index of a level of `count` nodes, one level up
-- by each step, until there is one node. They lead nowhere if they are too few, too many, or a step
-- doesn't fit its level.
unfoldable pub climb : {X : Type 0} → (X → X → X) → ℕ → ℕ → X → List (Option X) → Option X
climb node count index own [] = cond (nat_lt 1 count) None (Some own)
climb node count index own (step ∷ steps) = cond (nat_lt 1 count)
    (option_and_then (λ next. climb node (div_ceil count 2) (index / 2) next steps)
    (one_up node count index own step)) None

-- the proof shows that the leaf stands at the index of a tree of `count` leaves: its steps lead
-- from the leaf to a root, and what is published is the commitment to that number and that root
abbrev pub Accepts : List ℕ → ℕ → ℕ → List ℕ → List (Option (List ℕ)) → Type 0
Accepts published count index leaf proof =
    (index < count) × IsSomeAnd (climb node_digest count index (leaf_digest leaf) proof)
    (λ root. commitment count (Some root) ≡ published)

-- the leaf is the one at the index of the tree over leaves with these digests: by its digest, and
-- by its bytes where `own` is the tree's leaf there
abbrev pub IsLeafAt : List (List ℕ) → ℕ → Option (Bor (List ℕ)) → List ℕ → Type 0
IsLeafAt leaves index own leaf =
    (index < length leaves) × (leaf_digest leaf ≡ node_at leaves index)
    × IfSome own (λ bytes. leaf_digest bytes.now ≡ node_at leaves index → leaf ≡ bytes.now)

-- the nodes of levels that are kept as vectors
abbrev pub levels_of : List (Vec (List ℕ) Global) → List (List (List ℕ))
levels_of levels = map (λ (level : Vec (List ℕ) Global). level.items) levels

-- the lowest of the levels, which has the leaves' digests
abbrev pub lowest : List (List (List ℕ)) → List (List ℕ)
lowest levels = slice_index_or levels 0 []

-- the first levels over the leaves, from the leaves up, each of several nodes
pub record AreLevels (leaves : List (List ℕ)) (levels : List (List (List ℕ))) : Type 0 where
  pub each : (k : ℕ) → k < length levels
      → slice_index_or levels k [] ≡ level_above node_digest k leaves
  pub several : (k : ℕ) → k < length levels → 2 ≤ length (level_above node_digest k leaves)

-- all levels of a tree: each of several nodes but the highest, which has one, or none where there
-- is no leaf
pub record IsTree (levels : List (List (List ℕ))) : Type 0 where
  pub each : (k : ℕ) → k < length levels
      → slice_index_or levels k [] ≡ level_above node_digest k (lowest levels)
  pub several : (k : ℕ) → k + 1 < length levels
      → 2 ≤ length (level_above node_digest k (lowest levels))
  pub some : 1 ≤ length levels
  pub top : length (level_above node_digest (length levels - 1) (lowest levels)) ≤ 1
