-- What a list call returns by the path that it took.
use Rattle.parallel_bridge.proofs.Common.{Path, FoldSegment, FoldsAs, FoldInitSegment, StatesAs, TryFoldSegment, TryFoldsAs, FoldedAs, FoldedInitAs, TryFoldedAs, MappedInitAs, ◌≡◌, ℕ, List, Result}
use Rattle.parallel_bridge.proofs.Bracketings.{bracketing_from_folds}
use Rattle.parallel_bridge.proofs.Statefuls.{stateful_from_states}
use Rattle.parallel_bridge.proofs.TryBracketings.{fold_init_from_folds, try_bracketing_from_folds}

module _ (path taken : Path) (is : path ≡ taken) (depth : ℕ) where
  pub folded_by : {X R : Type 0} (identity : R → Type 0) (step : R → X → R → Type 0)
      (reduce : R → R → R → Type 0) (xs : List X) (r : R)
      → FoldsAs identity (FoldSegment identity step) reduce depth taken xs r
      → FoldedAs identity step reduce depth path xs r
  folded_by identity step reduce xs r h = rw is
      (bracketing_from_folds identity step reduce depth taken xs r h, h)

  pub folded_init_by : {S X R : Type 0} (init : S → Type 0) (identity : R → Type 0)
      (step : S → R → X → R → S → Type 0) (reduce : R → R → R → Type 0) (xs : List X) (r : R)
      → FoldsAs identity (FoldInitSegment init identity step) reduce depth taken xs r
      → FoldedInitAs init identity step reduce depth path xs r
  folded_init_by init identity step reduce xs r h = rw is
      (fold_init_from_folds init identity step reduce depth taken xs r h, h)

  pub try_folded_by : {X R E : Type 0} (identity : R → Type 0) (step : R → X → Result R E → Type 0)
      (reduce : R → R → R → Type 0) (xs : List X) (out : Result R E)
      → TryFoldsAs identity (TryFoldSegment identity step) reduce depth taken xs out
      → TryFoldedAs identity step reduce depth path xs out
  try_folded_by identity step reduce xs out h = rw is
      (try_bracketing_from_folds identity step reduce depth taken xs out h, h)

  pub mapped_init_by : {S X Y : Type 0} (init : S → Type 0) (step : S → X → Y → S → Type 0)
      (xs : List X) (ys : List Y) → StatesAs init step depth taken xs ys
      → MappedInitAs init step depth path xs ys
  mapped_init_by init step xs ys h = rw is
      (stateful_from_states init step depth taken xs ys h, h)
