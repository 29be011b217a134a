-- The root by a relation is the root by the function that the relation is of.
use Rattle.std.proofs.Common.{◌≡◌, ℕ, zero, suc, ◌+◌, ◌≤◌, List, [], ◌∷◌, length, Option, refl, sym, ◌∙◌, ap, subst, arith}
use Rattle.commonware_parallel.specs.Merkle.{MerkleRoot, NextLevel, of_level, of_none, of_one}
use Rattle.merkle_tree.specs.Merkle.{first_node, level_above, merkle_root, next_level}
use Rattle.merkle_tree.proofs.Levels.{level_next, level_short, root_at}

module _ {X : Type 0} (node : X → X → X) where
  -- a level above the next one is a level higher above the level
  above_next : (n : ℕ) (xs : List X)
      → level_above node n (next_level node xs) ≡ next_level node (level_above node n xs)
  unfolding level_above
  above_next zero xs = refl
  above_next (suc n) xs = ap (next_level node) (above_next n xs)

  -- the root of the next level
  root_next : (xs : List X) → merkle_root node (next_level node xs) ≡ merkle_root node xs
  root_next xs =
      let next = next_level node xs in
      let n = length next in
      let up : level_above node n next ≡ level_above node (n + 1) xs =
      above_next n xs ∙ sym (level_next node n xs) in
      let short : length (level_above node n next) ≤ 1 =
      omega (arith, level_short node n next) in
      ap first_node up
      ∙ sym (root_at node (n + 1) xs (subst (λ l. length l ≤ 1) up short))

  module _ (allowed : X → X → X → Type 0) (one : (a b c : X) → allowed a b c → c ≡ node a b) where
    next_is : (xs ns : List X) → NextLevel allowed xs ns → ns ≡ next_level node xs
    unfolding next_level
    next_is [] ns h = h
    next_is (x ∷ []) ns h = h
    next_is (x ∷ (y ∷ xs)) [] h = absurd h
    next_is (x ∷ (y ∷ xs)) (n ∷ ns) h =
        ap (λ v. v ∷ ns) (one x y n h.0) ∙ ap (λ l. node x y ∷ l) (next_is xs ns h.1)

    pub root_is : (xs : List X) (root : Option X) → MerkleRoot allowed xs root
        → root ≡ merkle_root node xs
    unfolding level_above
    root_is [] root of_none = refl
    root_is (x ∷ []) root (of_one) = sym (root_at node 0 (x ∷ []) (omega arith))
    root_is (x ∷ (y ∷ xs)) root (of_level {nodes = ns} next above) =
        root_is ns root above ∙ ap (merkle_root node) (next_is (x ∷ (y ∷ xs)) ns next)
        ∙ root_next (x ∷ (y ∷ xs))
