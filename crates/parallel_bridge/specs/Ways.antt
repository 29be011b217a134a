-- What a list call returns, together with the path that it took.
use Rattle.std.specs.Prelude.{ℕ, List, Result}
use Rattle.parallel_bridge.specs.declared.path.Path.{Path}
use Rattle.parallel_bridge.specs.Lists.{Bracketing, Brackets, FoldSegment}
use Rattle.parallel_bridge.specs.Shapes.{FoldsAs}
use Rattle.parallel_bridge.specs.States.{FoldInitSegment, Stateful, StatesAs}
use Rattle.parallel_bridge.specs.Tries.{TryBracketing, TryFoldSegment, TryFoldsAs}

-- A fold: for one list its result and the path that it took.
abbrev pub FoldedAs : {X R : Type 0} → (R → Type 0) → (R → X → R → Type 0) → (R → R → R → Type 0)
    → ℕ → Path → List X → R → Type 0
FoldedAs identity step reduce depth path xs r = Bracketing identity step reduce xs r
    × FoldsAs identity (FoldSegment identity step) reduce depth path xs r

-- Likewise, a fold with a state.
abbrev pub FoldedInitAs : {S X R : Type 0} → (S → Type 0) → (R → Type 0)
    → (S → R → X → R → S → Type 0) → (R → R → R → Type 0) → ℕ → Path → List X → R → Type 0
FoldedInitAs init identity step reduce depth path xs r = Brackets
    (FoldInitSegment init identity step) reduce xs r
    × FoldsAs identity (FoldInitSegment init identity step) reduce depth path xs r

-- Likewise, a fold by steps that may fail.
abbrev pub TryFoldedAs : {X R E : Type 0} → (R → Type 0) → (R → X → Result R E → Type 0)
    → (R → R → R → Type 0) → ℕ → Path → List X → Result R E → Type 0
TryFoldedAs identity step reduce depth path xs out = TryBracketing identity step reduce xs out
    × TryFoldsAs identity (TryFoldSegment identity step) reduce depth path xs out

-- Likewise, a map with a state.
abbrev pub MappedInitAs : {S X Y : Type 0} → (S → Type 0) → (S → X → Y → S → Type 0) → ℕ → Path
    → List X → List Y → Type 0
MappedInitAs init step depth path xs ys = Stateful init step xs ys
    × StatesAs init step depth path xs ys
