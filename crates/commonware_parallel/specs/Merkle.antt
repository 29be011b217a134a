-- The root of a tree over leaves, level by level. The closure that combines two neighbours enters
-- by the relation of the two to the nodes that it may return.
use Rattle.std.specs.Prelude.{◌≡◌, List, [], ◌∷◌, Option, Some, None}
use Rattle.parallel_bridge.specs.Lists.{MapOf}

-- the next level: neighbours combined in pairs, left before right, an odd last one unchanged
abbrev pub NextLevel : {T : Type 0} → (T → T → T → Type 0) → List T → List T → Type 0
NextLevel combine [] nodes = nodes ≡ []
NextLevel combine (x ∷ []) nodes = nodes ≡ x ∷ []
NextLevel combine (x ∷ (y ∷ xs)) [] = ⊥
NextLevel combine (x ∷ (y ∷ xs)) (node ∷ nodes) = combine x y node × NextLevel combine xs nodes

-- The root of no leaf is None, that of one leaf is the leaf, and else it is the root of the next
-- level. If the node above a and b is 2a + 3b modulo 1000003, the leaves 1, 2, 3 have the level 8,
-- 3 and the root 25, and the leaves 1 to 7 have 8, 18, 28, 7, then 70, 77, and the root 371.
pub data MerkleRoot {T : Type 0} (combine : T → T → T → Type 0) : List T → Option T → Type 0 where
  of_none : MerkleRoot combine [] None
  of_one : {x : T} → MerkleRoot combine (x ∷ []) (Some x)
  of_level : {x y : T} {xs nodes : List T} {root : Option T}
      → NextLevel combine (x ∷ (y ∷ xs)) nodes → MerkleRoot combine nodes root
      → MerkleRoot combine (x ∷ (y ∷ xs)) root

-- the root of leaves that leaf may give of the items, one for each
abbrev pub RootOf : {X T : Type 0} → (X → T → Type 0) → (T → T → T → Type 0) → List X → Option T
    → Type 0
RootOf {T = T} leaf combine items root =
    (leaves : List T) × MapOf leaf items leaves × MerkleRoot combine leaves root

-- of two nodes there is one result at most
abbrev pub IsDetermined : {T : Type 0} → (T → T → T → Type 0) → Type 0
IsDetermined {T = T} combine = (x y one other : T) → combine x y one → combine x y other
    → one ≡ other
