-- The levels of a tree.
use Rattle.std.proofs.Common.{◌≡◌, ℕ, zero, suc, ◌+◌, ◌-◌, ◌*◌, ◌<◌, ◌≤◌, max, List, [], ◌∷◌, length, get_or, Some, refl, sym, ◌∙◌, ap, arith, add-one}
use Rattle.std.specs.Int.{div_ceil}
use Rattle.merkle_tree.specs.Merkle.{next_level, level_above, first_node, merkle_root}

module _ {X : Type 0} (node : X → X → X) where
  -- half as many nodes, rounded up
  pub length-next_level : (xs : List X) → length (next_level node xs) ≡ div_ceil (length xs) 2
  unfolding next_level
  length-next_level [] = omega arith
  length-next_level (x ∷ []) = omega arith
  length-next_level (x ∷ (y ∷ xs)) = omega (arith, length-next_level xs)

  -- two neighbours have one node above them
  pub above_pair : (d : X) (xs : List X) (i left right : ℕ) → left ≡ 2 * i → right ≡ 2 * i + 1
      → right < length xs
      → get_or (next_level node xs) i d ≡ node (get_or xs left d) (get_or xs right d)
  unfolding next_level
  above_pair d [] i left right l r h = absurd (omega arith)
  above_pair d (x ∷ []) i left right l r h = absurd (omega arith)
  above_pair d (x ∷ (y ∷ xs)) zero left right l r h =
      let zeroth : left ≡ 0 = omega arith in
      let first : right ≡ 1 = omega arith in
      rw (zeroth, first) refl
  above_pair d (x ∷ (y ∷ xs)) (suc i) left right l r h =
      let lower : left ≡ suc (suc (2 * i)) = omega arith in
      let upper : right ≡ suc (suc (2 * i + 1)) = omega arith in
      rw (lower, upper) (above_pair d xs i (2 * i) (2 * i + 1) refl refl (omega arith))

  -- an odd last node goes up unchanged
  pub above_alone : (d : X) (xs : List X) (i last : ℕ) → last ≡ 2 * i → last + 1 ≡ length xs
      → get_or (next_level node xs) i d ≡ get_or xs last d
  unfolding next_level
  above_alone d [] i last l h = absurd (omega arith)
  above_alone d (x ∷ []) i last l h =
      let zeroth : last ≡ 0 = omega arith in
      let same : i ≡ 0 = omega arith in
      rw (zeroth, same) refl
  above_alone d (x ∷ (y ∷ xs)) zero last l h = absurd (omega arith)
  above_alone d (x ∷ (y ∷ xs)) (suc i) last l h =
      let lower : last ≡ suc (suc (2 * i)) = omega arith in
      rw lower (above_alone d xs i (2 * i) refl (omega arith))

  -- a level of one node, or of none, is its own next level
  pub next_of_one : (xs : List X) → length xs ≤ 1 → next_level node xs ≡ xs
  unfolding next_level
  next_of_one [] h = refl
  next_of_one (x ∷ []) h = refl
  next_of_one (x ∷ (y ∷ xs)) h = absurd (omega arith)

  -- the level above a level is its next
  pub level_next : (n : ℕ) (xs : List X)
      → level_above node (n + 1) xs ≡ next_level node (level_above node n xs)
  unfolding level_above
  level_next n xs = ap (λ k. level_above node k xs) (add-one n)

  -- each level is shorter than the one below, until one node is left
  pub level_short : (n : ℕ) (xs : List X) → length (level_above node n xs) ≤ max 1 (length xs - n)
  unfolding level_above
  level_short zero xs = omega arith
  level_short (suc n) xs =
      omega (arith, level_short n xs, length-next_level (level_above node n xs))

  -- from there on the levels stay
  level_stays : (h m : ℕ) (xs : List X) → length (level_above node h xs) ≤ 1
      → level_above node (m + h) xs ≡ level_above node h xs
  unfolding level_above
  level_stays h zero xs one = ap (λ n. level_above node n xs) (omega arith)
  level_stays h (suc m) xs one =
      let up : suc m + h ≡ suc (m + h) = omega arith in
      ap (λ n. level_above node n xs) up ∙ ap (next_level node) (level_stays h m xs one)
      ∙ next_of_one (level_above node h xs) one

  -- so the root is the first node of any level of one node or none
  pub root_at : (h : ℕ) (xs : List X) → length (level_above node h xs) ≤ 1
      → merkle_root node xs ≡ first_node (level_above node h xs)
  root_at h xs one =
      let n = length xs in
      let last : length (level_above node n xs) ≤ 1 = omega (arith, level_short n xs) in
      let over : level_above node (h + n) xs ≡ level_above node n xs = level_stays n h xs last in
      let other : level_above node (n + h) xs ≡ level_above node h xs = level_stays h n xs one in
      let turned : n + h ≡ h + n = omega arith in
      ap first_node (sym over ∙ ap (λ k. level_above node k xs) (sym turned) ∙ other)

  -- a level over leaves has nodes
  pub some_above : (k : ℕ) (leaves : List X) → 0 < length leaves
      → 0 < length (level_above node k leaves)
  unfolding level_above
  some_above zero leaves h = h
  some_above (suc k) leaves h =
      omega (arith, some_above k leaves h, length-next_level (level_above node k leaves))

  -- the one node of a level is its first
  pub first_alone : (d : X) (xs : List X) (i : ℕ) → length xs ≤ 1 → i < length xs
      → first_node xs ≡ Some (get_or xs i d)
  first_alone d [] i one h = absurd (omega arith)
  first_alone d (x ∷ []) zero one h = refl
  first_alone d (x ∷ []) (suc i) one h = absurd (omega arith)
  first_alone d (x ∷ (y ∷ xs)) i one h = absurd (omega arith)

  -- so there is a root where there is a leaf
  pub some_root : (d : X) (leaves : List X) → 0 < length leaves
      → merkle_root node leaves ≡ Some (get_or (level_above node (length leaves) leaves) 0 d)
  some_root d leaves h =
      let n = length leaves in
      let top : length (level_above node n leaves) ≤ 1 = omega (arith, level_short n leaves) in
      root_at n leaves top
      ∙ first_alone d (level_above node n leaves) 0 top (some_above n leaves h)
