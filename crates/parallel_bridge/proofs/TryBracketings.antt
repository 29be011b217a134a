-- What goes along the shape of a list comes from neighbouring segments, also where segments may
-- fail or have a state.
use Rattle.parallel_bridge.proofs.Common.{Path, Serial, Parallel, Brackets, Cut, segment, halves, cut_items, Shape, FoldsAs, FoldInitSegment, TryFoldSegment, TryBrackets, of_try_segment, of_values}
use Rattle.parallel_bridge.proofs.Common.{of_left_error, of_right_error, TryBracketing, TryAlongLeaves, TryFoldsAs, ℕ, List, [], Result, Ok, Err, refl, subst, inl, inr}
use Rattle.parallel_bridge.proofs.Shapes.{Shape-items}
use Rattle.parallel_bridge.proofs.Bracketings.{brackets_from_folds}

module _ {S X R : Type 0} (init : S → Type 0) (identity : R → Type 0)
    (step : S → R → X → R → S → Type 0) (reduce : R → R → R → Type 0) where
  -- an identity is the result of no item from the state that another segment began with
  pub fold_init_fresh : (e : R) (xs : List X) (b : R) → identity e
      → FoldInitSegment init identity step xs b → FoldInitSegment init identity step [] e
  fold_init_fresh e xs b h (s, a, made, first, chain) = (s, e, made, h, refl)

  -- folds with a state, whichever way they are carried out
  pub fold_init_from_folds : (depth : ℕ) (path : Path) (xs : List X) (r : R)
      → FoldsAs identity (FoldInitSegment init identity step) reduce depth path xs r
      → Brackets (FoldInitSegment init identity step) reduce xs r
  fold_init_from_folds depth path xs r h = brackets_from_folds identity
      (FoldInitSegment init identity step) reduce fold_init_fresh depth path xs r h

module _ {X R E : Type 0} (identity : R → Type 0) (allowed : List X → Result R E → Type 0)
    (reduce : R → R → R → Type 0) (fresh : (e : R) → identity e → allowed [] (Ok e)) where
  -- outcomes along a cut come from neighbouring segments
  pub try_brackets_from_leaves : (cut : Cut X) (out : Result R E)
      → TryAlongLeaves identity allowed reduce cut out
      → TryBrackets allowed reduce (cut_items cut) out
  try_brackets_from_leaves (segment xs) (Ok r) (e, b, h, i, n) =
      of_values {xs = []} {ys = xs} refl (of_try_segment (fresh e h)) (of_try_segment i) n
  try_brackets_from_leaves (segment xs) (Err x) h = of_try_segment h
  try_brackets_from_leaves (halves p q) (Ok r) (inl (a, b, h, i, n)) =
      of_values refl (try_brackets_from_leaves p (Ok a) h) (try_brackets_from_leaves q (Ok b) i) n
  try_brackets_from_leaves (halves p q) (Err x) (inl (a, b, h, i, n)) = absurd n
  try_brackets_from_leaves (halves p q) out (inr (inl (e, same, h))) = rw same
      (of_left_error (cut_items p) (cut_items q) refl (try_brackets_from_leaves p (Err e) h))
  try_brackets_from_leaves (halves p q) out (inr (inr (a, e, same, h, i))) = rw same
      (of_right_error refl (try_brackets_from_leaves p (Ok a) h)
      (try_brackets_from_leaves q (Err e) i))

  -- whichever way a fold that may fail is carried out
  pub try_brackets_from_folds : (depth : ℕ) (path : Path) (xs : List X) (out : Result R E)
      → TryFoldsAs identity allowed reduce depth path xs out → TryBrackets allowed reduce xs out
  try_brackets_from_folds depth Serial xs out h = of_try_segment h
  try_brackets_from_folds depth Parallel xs out h = subst (λ l. TryBrackets allowed reduce l out)
      (Shape-items depth xs) (try_brackets_from_leaves (Shape depth xs) out h)

module _ {X R E : Type 0} (identity : R → Type 0) (step : R → X → Result R E → Type 0)
    (reduce : R → R → R → Type 0) where
  -- the same, whichever way they are carried out
  pub try_bracketing_from_folds : (depth : ℕ) (path : Path) (xs : List X) (out : Result R E)
      → TryFoldsAs identity (TryFoldSegment identity step) reduce depth path xs out
      → TryBracketing identity step reduce xs out
  try_bracketing_from_folds depth path xs out h = try_brackets_from_folds identity
      (TryFoldSegment identity step) reduce (λ e i. (e, i, refl)) depth path xs out h
