-- What maps and folds over a list may return. A closure enters by the relation of its arguments to
-- the results that it may give, so a closure with several results to one argument is covered too.
use Rattle.std.specs.Prelude.{◌≡◌, ◌⊎◌, ℕ, List, [], ◌∷◌, ◌++◌, take}
use Rattle.std.specs.List.{AllZip}

-- as many results as items, and each one allowed for the item in its place
abbrev pub MapOf : {X Y : Type 0} → (X → Y → Type 0) → List X → List Y → Type 0
MapOf allowed xs ys = AllZip allowed xs ys

-- b is reached from a by one allowed step for each item, left to right
abbrev pub Chain : {X R : Type 0} → (R → X → R → Type 0) → R → List X → R → Type 0
Chain step a [] b = a ≡ b
Chain {R = R} step a (x ∷ xs) b = (m : R) × step a x m × Chain step m xs b

-- r is reached by a chain over all items from a value that identity may return
abbrev pub FoldSegment : {X R : Type 0} → (R → Type 0) → (R → X → R → Type 0) → List X → R → Type 0
FoldSegment {R = R} identity step xs r = (a : R) × identity a × Chain step a xs r

-- Two cases. A segment, possibly empty, gives a value as `segment` allows. Or the list is a front
-- followed by a back, each with a bracketing, and r is an allowed reduction of the two, left before
-- right. What a segment may give is a parameter, so that folds with a state and fallible folds
-- share the definition.
pub data Brackets {X R : Type 0} (segment : List X → R → Type 0)
    (reduce : R → R → R → Type 0) : List X → R → Type 0 where
  of_segment : {xs : List X} {r : R} → segment xs r → Brackets segment reduce xs r
  of_parts : {xs ys zs : List X} {p q r : R} → zs ≡ xs ++ ys → Brackets segment reduce xs p
      → Brackets segment reduce ys q → reduce p q r → Brackets segment reduce zs r

-- r is a reduction of folds of neighbouring segments, each begun anew from the identity. Nothing of
-- the list is left out, doubled or moved.
abbrev pub Bracketing : {X R : Type 0} → (R → Type 0) → (R → X → R → Type 0) → (R → R → R → Type 0)
    → List X → R → Type 0
Bracketing identity step reduce xs r = Brackets (FoldSegment identity step) reduce xs r

-- all items of a list, or the first n
abbrev pub IsFront : {X : Type 0} → ℕ → List X → List X → Type 0
IsFront n xs all = (xs ≡ all) ⊎ (xs ≡ take n all)
