-- What goes along the shape of a list is a reduction of neighbouring segments.
use Rattle.parallel_bridge.proofs.Common.{Path, Serial, Parallel, FoldSegment, Brackets, of_segment, of_parts, Bracketing, Cut, segment, halves, cut_items, Shape, AlongLeaves, FoldsAs, ℕ, List, []}
use Rattle.parallel_bridge.proofs.Common.{refl, subst}
use Rattle.parallel_bridge.proofs.Shapes.{Shape-items}

module _ {X R : Type 0} (identity : R → Type 0) (allowed : List X → R → Type 0)
    (reduce : R → R → R → Type 0) (fresh : (e : R) (xs : List X) (b : R) → identity e → allowed xs b
    → allowed [] e) where
  -- an identity is the result of an empty segment, so what goes along a cut comes by reductions of
  -- neighbours
  pub brackets_from_leaves : (cut : Cut X) (r : R) → AlongLeaves identity allowed reduce cut r
      → Brackets allowed reduce (cut_items cut) r
  brackets_from_leaves (segment xs) r (e, b, h, i, n) =
      of_parts {xs = []} {ys = xs} refl (of_segment (fresh e xs b h i)) (of_segment i) n
  brackets_from_leaves (halves p q) r (a, b, h, i, n) =
      of_parts refl (brackets_from_leaves p a h) (brackets_from_leaves q b i) n

  -- whichever way a fold is carried out, its result comes by reductions of neighbouring segments
  pub brackets_from_folds : (depth : ℕ) (path : Path) (xs : List X) (r : R)
      → FoldsAs identity allowed reduce depth path xs r → Brackets allowed reduce xs r
  brackets_from_folds depth Serial xs r h = of_segment h
  brackets_from_folds depth Parallel xs r h = subst (λ l. Brackets allowed reduce l r)
      (Shape-items depth xs) (brackets_from_leaves (Shape depth xs) r h)

module _ {X R : Type 0} (identity : R → Type 0) (step : R → X → R → Type 0)
    (reduce : R → R → R → Type 0) where
  -- the same of folds by steps, whichever way they are carried out
  pub bracketing_from_folds : (depth : ℕ) (path : Path) (xs : List X) (r : R)
      → FoldsAs identity (FoldSegment identity step) reduce depth path xs r
      → Bracketing identity step reduce xs r
  bracketing_from_folds depth path xs r h = brackets_from_folds identity
      (FoldSegment identity step) reduce (λ e xs b i h. (e, i, refl)) depth path xs r h
