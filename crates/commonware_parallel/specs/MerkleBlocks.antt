-- Several levels of a tree at once, over blocks of leaves that need nothing of one another.
use Rattle.std.specs.Prelude.{◌≡◌, ℕ, zero, suc, ◌+◌, ◌*◌, ◌<◌, ◌≤◌, List, ◌++◌, length}
use Rattle.parallel_bridge.specs.Lists.{MapOf}
use Rattle.commonware_parallel.specs.Merkle.{NextLevel}

-- the nodes that many levels above the leaves
abbrev pub Levels : {T : Type 0} → (T → T → T → Type 0) → ℕ → List T → List T → Type 0
Levels combine zero leaves nodes = nodes ≡ leaves
Levels {T = T} combine (suc levels) leaves nodes =
    (above : List T) × NextLevel combine leaves above × Levels combine levels above nodes

-- How many leaves are below a node that many levels above them, where none is missing: each level
-- doubles them.
abbrev pub leaves_below : ℕ → ℕ
leaves_below zero = 1
leaves_below (suc levels) = leaves_below levels + leaves_below levels

-- a block of that many leaves comes down to one node, its top: a power of two
abbrev pub IsBlockSize : ℕ → Type 0
IsBlockSize size = (levels : ℕ) × (size ≡ leaves_below levels)

-- The nodes at the level at which a full block of that many leaves is one node. Of leaves that fill
-- that many blocks it has as many, and one more where some leaves are left.
abbrev pub AreTops : {T : Type 0} → (T → T → T → Type 0) → ℕ → List T → List T → Type 0
AreTops combine size leaves tops = (levels : ℕ) → size ≡ leaves_below levels
    → Levels combine levels leaves tops

-- len leaves are that many blocks, of which the last one may have fewer leaves
abbrev pub AreBlocks : ℕ → ℕ → ℕ → Type 0
AreBlocks size len count = (len ≤ count * size) × (count * size < len + size)

-- the tops of blocks of that size of leaves that leaf may give of the items, one for each
abbrev pub AreTopsOf : {X T : Type 0} → (X → T → Type 0) → (T → T → T → Type 0) → ℕ → List X
    → List T → Type 0
AreTopsOf {T = T} leaf combine size items tops =
    (leaves : List T) × MapOf leaf items leaves × AreTops combine size leaves tops

-- at least that many items come of the cursor, and of each that may come a leaf can be made
abbrev pub HasItems : {C X : Type 0} → (C → Type 0) → (C → List X → Type 0) → (C → X → Type 0)
    → (X → Type 0) → ℕ → C → Type 0
HasItems {X = X} ready gives may makes count cursor = ready cursor
    × ((x : X) → may cursor x → makes x) × ((xs : List X) → gives cursor xs → count ≤ length xs)

-- The cursor gave xs and is then `after`: it may be asked again, what comes then comes behind xs,
-- and what may come or be left then might have before.
abbrev pub HasGiven : {C X R : Type 0} → (C → Type 0) → (C → List X → Type 0) → (C → X → Type 0)
    → (C → R → Type 0) → C → List X → C → Type 0
HasGiven {X = X} {R = R} ready gives may leaves before xs after = ready after
    × ((more : List X) → gives after more → gives before (xs ++ more))
    × ((x : X) → may after x → may before x) × ((rest : R) → leaves after rest → leaves before rest)

-- that many items came, and these are the tops of their leaves' blocks
abbrev pub ComesDown : {X T : Type 0} → (List X → Type 0) → (X → T → Type 0)
    → (T → T → T → Type 0) → ℕ → ℕ → List T → Type 0
ComesDown {X = X} came leaf combine size count tops = (xs : List X) × (length xs ≡ count)
    × came xs × AreTopsOf leaf combine size xs tops
