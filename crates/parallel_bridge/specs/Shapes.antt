-- How a list is split among threads, and what a fold along the splits may return.
use Rattle.std.specs.Prelude.{ℕ, zero, suc, ◌-◌, ◌/◌, List, [], ◌∷◌, ◌++◌, length, take, drop, cond, nat_lt}
use Rattle.parallel_bridge.specs.declared.path.Path.{Path}
use Rattle.parallel_bridge.specs.declared.path.Path.TheVariants.{Serial, Parallel}
use Rattle.std.specs.Int.{w64, leading_zeros}
use Rattle.std.specs.Int.NonZero.{non_zero_usize_get}
use Rattle.std.specs.declared.num.NonZeroUsize.{NonZeroUsize}
use Rattle.parallel_bridge.specs.Lists.{FoldSegment}

-- a list left whole, or split in two parts that may be split again
pub data Cut (X : Type 0) : Type 0 where
  segment : List X → Cut X
  halves : Cut X → Cut X → Cut X

-- the items of all segments, left to right
abbrev pub cut_items : {X : Type 0} → Cut X → List X
cut_items (segment xs) = xs
cut_items (halves p q) = cut_items p ++ cut_items q

-- the lengths of the segments, left to right
abbrev pub leaf_lengths : {X : Type 0} → Cut X → List ℕ
leaf_lengths (segment xs) = length xs ∷ []
leaf_lengths (halves p q) = leaf_lengths p ++ leaf_lengths q

-- a list split at half its length, rounded down, and its parts likewise, at most k levels deep and
-- never a list of fewer than two items
abbrev pub Shape : {X : Type 0} → ℕ → List X → Cut X
Shape zero xs = segment xs
Shape (suc k) [] = segment []
Shape (suc k) (x ∷ []) = segment (x ∷ [])
Shape (suc k) (x ∷ (y ∷ xs)) = halves (Shape k (take (length (x ∷ (y ∷ xs)) / 2) (x ∷ (y ∷ xs))))
    (Shape k (drop (length (x ∷ (y ∷ xs)) / 2) (x ∷ (y ∷ xs))))

-- the lengths of the segments of a list of n items that is split at most k levels deep
abbrev pub halved_lengths : ℕ → ℕ → List ℕ
halved_lengths zero n = n ∷ []
halved_lengths (suc k) n =
    cond (nat_lt n 2) (n ∷ []) (halved_lengths k (n / 2) ++ halved_lengths k (n - n / 2))

-- how many binary digits the word n has, 0 for 0: so often a number that begins as n is halved,
-- rounding down, until it is 0
abbrev pub cutdepth : ℕ → ℕ
cutdepth n = 64 - leading_zeros w64 n

-- how many levels deep a list is split for that many threads
abbrev pub levels : NonZeroUsize → ℕ
levels threads = cutdepth (non_zero_usize_get threads)

-- each segment gives a result as leaf allows for its items, and two parts give what node allows for
-- the results of left and right
abbrev pub AlongCut : {X R : Type 0} → (List X → R → Type 0) → (R → R → R → Type 0) → Cut X → R
    → Type 0
AlongCut leaf node (segment xs) r = leaf xs r
AlongCut {R = R} leaf node (halves p q) r = (a b : R) × AlongCut leaf node p a
    × AlongCut leaf node q b × node a b r

-- the reduction of a fresh identity and of what allowed says of the items
abbrev pub ReducedSegment : {X R : Type 0} → (R → Type 0) → (List X → R → Type 0)
    → (R → R → R → Type 0) → List X → R → Type 0
ReducedSegment {R = R} identity allowed reduce xs r = (e b : R) × identity e × allowed xs b
    × reduce e b r

-- a segment gives the reduction of a fresh identity and of what allowed says of its items; two
-- parts give the reduction of left and right
abbrev pub AlongLeaves : {X R : Type 0} → (R → Type 0) → (List X → R → Type 0)
    → (R → R → R → Type 0) → Cut X → R → Type 0
AlongLeaves identity allowed reduce cut r =
    AlongCut (ReducedSegment identity allowed reduce) reduce cut r

-- Each segment is folded from an identity of its own, and reduced after a further one. The fold of
-- [1, 2, 3] by addition from 10, over two threads:
--     Shape (cutdepth 2) [1,2,3]         [1,2,3]                 depth 2
--                                       /       \
--                                    [1]       [2,3]             depth 1
--                                              /   \
--                                            [2]   [3]           depth 0
--     each leaf: 10 (its identity) + its item, after a further 10
--                                    21        22  23
--     each node: left + right                   45
--                                         66
-- In one segment, serially, it is 10 + 1 + 2 + 3 = 16, and nothing is reduced.
abbrev pub Along : {X R : Type 0} → (R → Type 0) → (R → X → R → Type 0) → (R → R → R → Type 0)
    → Cut X → R → Type 0
Along identity step reduce cut r = AlongLeaves identity (FoldSegment identity step) reduce cut r

-- serially the whole list is one segment and nothing is reduced; in parallel the result goes along
-- the list's shape of that depth
abbrev pub FoldsAs : {X R : Type 0} → (R → Type 0) → (List X → R → Type 0) → (R → R → R → Type 0)
    → ℕ → Path → List X → R → Type 0
FoldsAs identity allowed reduce depth Serial xs r = allowed xs r
FoldsAs identity allowed reduce depth Parallel xs r =
    AlongLeaves identity allowed reduce (Shape depth xs) r
