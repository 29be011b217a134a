-- Facts on what goes along a cut where segments may fail.
use Rattle.parallel_bridge.proofs.Common.{Cut, segment, halves, Shape, AlongCut, TryAlongCut, OnlyOk, ◌≡◌, ℕ, zero, suc, ◌-◌, ◌/◌, ◌<◌, ◌≤◌, List, length, take, drop, Result, Ok, Err, sym, ◌∙◌, ap}
use Rattle.parallel_bridge.proofs.Common.{subst, arith, inl, inr, ◌⊎◌}
use Rattle.parallel_bridge.proofs.Shapes.{Shape-leaf, Shape-node}

-- what goes along a cut still does where segments and parts allow more
module _ {X R E : Type 0} (leaf leaf' : List X → Result R E → Type 0)
    (node node' : R → R → Result R E → Type 0) where
  pub try_along_wider : ((xs : List X) (out : Result R E) → leaf xs out → leaf' xs out)
      → ((a b : R) (out : Result R E) → node a b out → node' a b out)
      → (cut : Cut X) (out : Result R E) → TryAlongCut leaf node cut out
      → TryAlongCut leaf' node' cut out
  try_along_wider f g (segment xs) out h = f xs out h
  try_along_wider f g (halves p q) out (inl (a, b, h, i, n)) =
      inl (a, b, try_along_wider f g p (Ok a) h, try_along_wider f g q (Ok b) i, g a b out n)
  try_along_wider f g (halves p q) out (inr (inl (e, same, h))) =
      inr (inl (e, same, try_along_wider f g p (Err e) h))
  try_along_wider f g (halves p q) out (inr (inr (a, e, same, h, i))) =
      inr (inr (a, e, same, try_along_wider f g p (Ok a) h, try_along_wider f g q (Err e) i))

-- the shapes of two parts that were split at half the length are the halves of the list's
pub shape_halves : {X : Type 0} (depth half : ℕ) (xs front back : List X) → zero < depth
    → 2 ≤ length xs → half ≡ length xs / 2 → front ≡ take half xs → back ≡ drop half xs
    → halves (Shape (depth - 1) front) (Shape (depth - 1) back) ≡ Shape depth xs
shape_halves zero half xs front back positive long at left right = absurd (omega arith)
shape_halves (suc k) half xs front back positive long at left right =
    let less : suc k - 1 ≡ k = omega arith in
    ap (λ m. halves (Shape m front) (Shape m back)) less
    ∙ ap (λ l. halves (Shape k l) (Shape k back)) (left ∙ ap (λ n. take n xs) at)
    ∙ ap (λ l. halves (Shape k (take (length xs / 2) xs)) (Shape k l))
    (right ∙ ap (λ n. drop n xs) at) ∙ sym (Shape-node k xs long)

module _ {X R E : Type 0} (leaf : List X → Result R E → Type 0)
    (node : R → R → Result R E → Type 0) where
  -- a list that is not to be split is one segment
  pub try_along_leaf : (depth : ℕ) (xs : List X) (out : Result R E) → (depth ≡ 0) ⊎ (length xs < 2)
      → leaf xs out → TryAlongCut leaf node (Shape depth xs) out
  try_along_leaf depth xs out (inl e) h =
      subst (λ d. TryAlongCut leaf node (Shape d xs) out) (sym e) h
  try_along_leaf depth xs out (inr short) h =
      subst (λ s. TryAlongCut leaf node s out) (sym (Shape-leaf depth xs short)) h

  -- the outcome of two parts that were split at half the length, for a list that is to be split
  pub try_along_node : (depth half : ℕ) (xs front back : List X) (out : Result R E) → zero < depth
      → 2 ≤ length xs → half ≡ length xs / 2 → front ≡ take half xs → back ≡ drop half xs
      → TryAlongCut leaf node (halves (Shape (depth - 1) front) (Shape (depth - 1) back)) out
      → TryAlongCut leaf node (Shape depth xs) out
  try_along_node depth half xs front back out positive long at left right h = subst
      (λ s. TryAlongCut leaf node s out)
      (shape_halves depth half xs front back positive long at left right) h

-- where nothing fails, the results go along the cut
module _ {X R : Type 0} (E : Type 0) (leaf : List X → R → Type 0) (node : R → R → R → Type 0) where
  pub along_unfailing : (cut : Cut X) (r : R)
      → TryAlongCut {E = E} (λ xs. OnlyOk (leaf xs)) (λ a b. OnlyOk (node a b)) cut (Ok r)
      → AlongCut leaf node cut r
  along_unfailing (segment xs) r h = h
  along_unfailing (halves p q) r (inl (a, b, h, i, n)) =
      (a, b, along_unfailing p a h, along_unfailing q b i, n)
  along_unfailing (halves p q) r (inr (inl (e, same, h))) = absurd (cc same)
  along_unfailing (halves p q) r (inr (inr (a, e, same, h, i))) = absurd (cc same)
