-- Maps and folds whose steps may fail.
use Rattle.std.specs.Prelude.{◌≡◌, ℕ, List, [], ◌∷◌, ◌++◌, Result, Ok, Err, Option, Some, None, ◌⊎◌, Bool, true, false}
use Rattle.parallel_bridge.specs.declared.path.Path.{Path}
use Rattle.parallel_bridge.specs.declared.path.Path.TheVariants.{Serial, Parallel}
use Rattle.std.specs.List.{AllZip}
use Rattle.parallel_bridge.specs.Shapes.{Cut, segment, halves, Shape}

-- as many values as items, each one allowed as Ok for the item in its place
abbrev pub EachOk : {X Y E : Type 0} → (X → Result Y E → Type 0) → List X → List Y → Type 0
EachOk allowed xs ys = AllZip (λ x y. allowed x (Ok y)) xs ys

-- some item may fail by e, and each item before it may return some Ok
abbrev pub FirstErr : {X Y E : Type 0} → (X → Result Y E → Type 0) → List X → E → Type 0
FirstErr {X = X} {Y = Y} allowed xs e = (before : List X) × (x : X) × (after : List X)
    × (ys : List Y) × (xs ≡ before ++ (x ∷ after)) × EachOk allowed before ys × allowed x (Err e)

-- an Ok gives a value for each item in its place, an error is the first failing item's
abbrev pub TryMapOf : {X Y E : Type 0} → (X → Result Y E → Type 0) → List X → Result (List Y) E
    → Type 0
TryMapOf allowed xs (Ok ys) = EachOk allowed xs ys
TryMapOf allowed xs (Err e) = FirstErr allowed xs e

-- one step for each item from a, left to right, up to the first step that fails
abbrev pub TryChain : {X R E : Type 0} → (R → X → Result R E → Type 0) → R → List X → Result R E
    → Type 0
TryChain step a [] out = out ≡ Ok a
TryChain {R = R} {E = E} step a (x ∷ xs) out = ((b : R) × step a x (Ok b) × TryChain step b xs out)
    ⊎ ((e : E) × step a x (Err e) × (out ≡ Err e))

-- a chain over all items, up to the first step that fails, from a value that identity may return
abbrev pub TryFoldSegment : {X R E : Type 0} → (R → Type 0) → (R → X → Result R E → Type 0) → List X
    → Result R E → Type 0
TryFoldSegment {R = R} identity step xs out = (a : R) × identity a × TryChain step a xs out

-- A part's outcome is a segment's; or it comes from two neighbours: the reduction of two values,
-- left before right, or the left one's error, where nothing is said of the right one, or, after a
-- value of the left one, the right one's error.
pub data TryBrackets {X R E : Type 0} (allowed : List X → Result R E → Type 0)
    (reduce : R → R → R → Type 0) : List X → Result R E → Type 0 where
  of_try_segment : {xs : List X} {out : Result R E} → allowed xs out
      → TryBrackets allowed reduce xs out
  of_values : {xs ys zs : List X} {p q r : R} → zs ≡ xs ++ ys → TryBrackets allowed reduce xs (Ok p)
      → TryBrackets allowed reduce ys (Ok q) → reduce p q r → TryBrackets allowed reduce zs (Ok r)
  of_left_error : (xs ys : List X) {zs : List X} {e : E} → zs ≡ xs ++ ys
      → TryBrackets allowed reduce xs (Err e) → TryBrackets allowed reduce zs (Err e)
  of_right_error : {xs ys zs : List X} {p : R} {e : E} → zs ≡ xs ++ ys
      → TryBrackets allowed reduce xs (Ok p) → TryBrackets allowed reduce ys (Err e)
      → TryBrackets allowed reduce zs (Err e)

-- a reduction of folds of neighbouring segments, each begun anew from the identity and ended by its
-- first error, of which the leftmost stands
abbrev pub TryBracketing : {X R E : Type 0} → (R → Type 0) → (R → X → Result R E → Type 0)
    → (R → R → R → Type 0) → List X → Result R E → Type 0
TryBracketing identity step reduce xs out = TryBrackets (TryFoldSegment identity step) reduce xs out

-- each segment gives an outcome as leaf allows for its items, and two parts give what node allows
-- for the values of left and right; a left part's error stands alone, a right part's after a value
-- of the left one
abbrev pub TryAlongCut : {X R E : Type 0} → (List X → Result R E → Type 0)
    → (R → R → Result R E → Type 0) → Cut X → Result R E → Type 0
TryAlongCut leaf node (segment xs) out = leaf xs out
TryAlongCut {R = R} {E = E} leaf node (halves p q) out =
    ((a b : R) × TryAlongCut leaf node p (Ok a) × TryAlongCut leaf node q (Ok b) × node a b out)
    ⊎ (((e : E) × (out ≡ Err e) × TryAlongCut leaf node p (Err e))
    ⊎ ((a : R) × (e : E) × (out ≡ Err e) × TryAlongCut leaf node p (Ok a)
    × TryAlongCut leaf node q (Err e)))

-- of an outcome that is a value, and of nothing else
abbrev pub OnlyOk : {R E : Type 0} → (R → Type 0) → Result R E → Type 0
OnlyOk allowed (Ok r) = allowed r
OnlyOk allowed (Err e) = ⊥

-- a value is the reduction of a fresh identity and of a value that allowed says of the items; an
-- error is what allowed says
abbrev pub TryReducedSegment : {X R E : Type 0} → (R → Type 0) → (List X → Result R E → Type 0)
    → (R → R → R → Type 0) → List X → Result R E → Type 0
TryReducedSegment {R = R} identity allowed reduce xs (Ok r) = (e b : R) × identity e
    × allowed xs (Ok b) × reduce e b r
TryReducedSegment identity allowed reduce xs (Err x) = allowed xs (Err x)

-- each segment is folded and reduced after a fresh identity, unless it fails; two parts give the
-- reduction of left and right, or the leftmost error
abbrev pub TryAlongLeaves : {X R E : Type 0} → (R → Type 0) → (List X → Result R E → Type 0)
    → (R → R → R → Type 0) → Cut X → Result R E → Type 0
TryAlongLeaves identity allowed reduce cut out =
    TryAlongCut (TryReducedSegment identity allowed reduce) (λ a b. OnlyOk (reduce a b)) cut out

-- the same of folds by steps that may fail
abbrev pub TryAlong : {X R E : Type 0} → (R → Type 0) → (R → X → Result R E → Type 0)
    → (R → R → R → Type 0) → Cut X → Result R E → Type 0
TryAlong identity step reduce cut out =
    TryAlongLeaves identity (TryFoldSegment identity step) reduce cut out

-- serially the whole list is one segment and nothing is reduced; in parallel the outcome goes along
-- the list's shape of that depth
abbrev pub TryFoldsAs : {X R E : Type 0} → (R → Type 0) → (List X → Result R E → Type 0)
    → (R → R → R → Type 0) → ℕ → Path → List X → Result R E → Type 0
TryFoldsAs identity allowed reduce depth Serial xs out = allowed xs out
TryFoldsAs identity allowed reduce depth Parallel xs out =
    TryAlongLeaves identity allowed reduce (Shape depth xs) out

-- the values before the first None
abbrev pub before_none : {T : Type 0} → List (Option T) → List T
before_none [] = []
before_none (Some x ∷ xs) = x ∷ before_none xs
before_none (None ∷ xs) = []

-- the values before the first None, or none at all where one was met before
abbrev pub unless_full : {T : Type 0} → Bool → List (Option T) → List T
unless_full true xs = []
unless_full false xs = before_none xs
