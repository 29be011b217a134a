-- The outcomes of two halves of a list, put together, go along the shape of the list.
use Rattle.parallel_bridge.proofs.Common.{◌≡◌, ℕ, zero, ◌-◌, ◌/◌, ◌<◌, ◌≤◌, List, ◌++◌, length, take, drop, Result, Ok, Err, refl, sym, subst, arith, inl, inr, ◌⊎◌, take-append_seam, drop-append_seam}
use Rattle.parallel_bridge.proofs.Common.{Trouble, Closure, OfFault, PutTogether, UnlessRefused, Shape, halves, Driven, GivesSome, TryAlongCut, ◌+◌, ◌∙◌, SamePlaces, Follows, View, part, shifted}
use denote.RattleType.{RattleType}
use Rattle.parallel_bridge.proofs.Outcomes.{unless_weaker}
use Rattle.parallel_bridge.proofs.TryShapes.{try_along_leaf, try_along_wider, try_along_node}

module _ {P X R E : Type 0} (gives : P → List X → Type 0) (all front back : P)
    (leaf leaf_l leaf_r : List X → Result R E → Type 0)
    (node node_l node_r reduce : R → R → Result R E → Type 0)
    (half len depth : ℕ) (above : zero < depth) (long : 2 ≤ len) (at : half ≡ len / 2)
    (each : (zs : List X) → gives all zs → length zs ≡ len)
    (joined : (xs ys : List X) → gives front xs → gives back ys → gives all (xs ++ ys))
    (first_half : (xs : List X) → gives front xs → length xs ≡ half)
    (some : (ys : List X) × gives back ys)
    (left_leaf : (xs : List X) (out : Result R E) → leaf_l xs out → leaf xs out)
    (right_leaf : (xs : List X) (out : Result R E) → leaf_r xs out → leaf xs out)
    (left_node : (a b : R) (out : Result R E) → node_l a b out → node a b out)
    (right_node : (a b : R) (out : Result R E) → node_r a b out → node a b out)
    (reduced : (a b : R) (out : Result R E) → reduce a b out → node a b out) where
  -- one list of the front and one of the back, and what goes along their shapes
  both : (xs ys : List X) (out : Result R E) → gives front xs → gives back ys
      → TryAlongCut leaf node (halves (Shape (depth - 1) xs) (Shape (depth - 1) ys)) out
      → GivesSome gives all (λ zs. TryAlongCut leaf node (Shape depth zs) out)
  both xs ys out gx gy h =
      let n : length (xs ++ ys) ≡ len = each (xs ++ ys) (joined xs ys gx gy) in
      let m : length xs ≡ half = first_half xs gx in
      let left : xs ≡ take half (xs ++ ys) =
      subst (λ k. xs ≡ take k (xs ++ ys)) m (sym (take-append_seam xs ys)) in
      let right : ys ≡ drop half (xs ++ ys) =
      subst (λ k. ys ≡ drop k (xs ++ ys)) m (sym (drop-append_seam xs ys)) in (
        xs ++ ys,
        joined xs ys gx gy,
        try_along_node leaf node depth half (xs ++ ys) xs ys out above
            (omega (arith, n)) (omega (arith, n)) left right h,
      )

  wide_left : (xs : List X) (out : Result R E)
      → TryAlongCut leaf_l node_l (Shape (depth - 1) xs) out
      → TryAlongCut leaf node (Shape (depth - 1) xs) out
  wide_left xs out h =
      try_along_wider leaf_l leaf node_l node left_leaf left_node (Shape (depth - 1) xs) out h

  wide_right : (ys : List X) (out : Result R E)
      → TryAlongCut leaf_r node_r (Shape (depth - 1) ys) out
      → TryAlongCut leaf node (Shape (depth - 1) ys) out
  wide_right ys out h =
      try_along_wider leaf_r leaf node_r node right_leaf right_node (Shape (depth - 1) ys) out h

  -- the outcomes of the halves put together
  pub driven_node : (first second result : Result R (Trouble E))
      → Driven gives front leaf_l node_l (depth - 1) first
      → Driven gives back leaf_r node_r (depth - 1) second → PutTogether reduce first second result
      → Driven gives all leaf node depth result
  driven_node (Err (Closure e)) second result (xs, gx, h) k is =
      rw is (both xs some.0 (Err e) gx some.1 (inr (inl (e, refl, wide_left xs (Err e) h))))
  driven_node (Err (OfFault f)) second result h k is = rw is h
  driven_node (Ok a) (Err (Closure e)) result (xs, gx, h) (ys, gy, k) is =
      rw is (both xs ys (Err e) gx gy (inr
      (inr (a, e, refl, wide_left xs (Ok a) h, wide_right ys (Err e) k))))
  driven_node (Ok a) (Err (OfFault f)) result h k is = rw is k
  driven_node (Ok a) (Ok b) result (xs, gx, h) (ys, gy, k) is = unless_weaker result (reduce a b)
      (λ out. GivesSome gives all (λ zs. TryAlongCut leaf node (Shape depth zs) out))
      (λ out n. both xs ys out gx gy
      (inl (a, b, wide_left xs (Ok a) h, wide_right ys (Ok b) k, reduced a b out n))) is

-- the outcome of a list that is not split
pub driven_leaf : {P X R E : Type 0} (gives : P → List X → Type 0) (all : P)
    (leaf : List X → Result R E → Type 0) (node : R → R → Result R E → Type 0) (depth : ℕ)
    (result : Result R (Trouble E)) → ((xs : List X) → gives all xs → (depth ≡ 0) ⊎ (length xs < 2))
    → UnlessRefused result (λ out. GivesSome gives all (λ xs. leaf xs out))
    → Driven gives all leaf node depth result
driven_leaf gives all leaf node depth result short h =
    unless_weaker result (λ out. GivesSome gives all (λ xs. leaf xs out))
    (λ out. GivesSome gives all (λ xs. TryAlongCut leaf node (Shape depth xs) out))
    (λ out k. (k.0, k.1, try_along_leaf leaf node depth k.0 out (short k.0 k.1) k.2)) h

-- the halves of a room that stay where they are lie side by side, and are all of it
pub halved_room : {X : Type 0} (R : RattleType) (room l r : View X) (half : ℕ) (xs ys : List X)
    → l ≡ part room.start half 0 xs → r ≡ part (shifted R room.start half) (room.room - half) 0 ys
    → half ≤ room.room → (a b : View X) → SamePlaces l a → SamePlaces r b
    → Follows R a b × (a.start ≡ room.start) × (a.room + b.room ≡ room.room)
halved_room R room l r half xs ys is_l is_r within a b left right =
    let start : a.start ≡ room.start = left.0 ∙ (λ i. (is_l i).start) in
    let front : a.room ≡ half = left.1 ∙ (λ i. (is_l i).room) in
    let back : b.room ≡ room.room - half = right.1 ∙ (λ i. (is_r i).room) in
    let next : b.start ≡ shifted R room.start half = right.0 ∙ (λ i. (is_r i).start) in
    (next ∙ sym (λ i. shifted R (start i) (front i)), start, omega arith)
