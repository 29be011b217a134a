-- The way up from another node than a tree has at the place. It leads to another root, unless two
-- nodes on the way have one digest.
use Rattle.std.proofs.Common.{◌≡◌, ◌≢◌, ℕ, ◌+◌, ◌/◌, ◌<◌, ◌≤◌, List, length, get_or, drop, Option, Some, None, refl, sym, subst, ◌∙◌, ap, arith, add-one, inl, inr, ◌⊎◌}
use Rattle.std.proofs.lemmas.Bool.{cases_lt}
use Rattle.std.specs.Int.{div_ceil}
use Rattle.merkle_tree.specs.Merkle.{climb, level_above, merkle_root, next_level, one_up}
use Rattle.merkle_tree.proofs.ClimbSteps.{ends, goes_on, too_many}
use Rattle.merkle_tree.proofs.Levels.{first_alone, length-next_level, root_at, some_above}

module _ {X : Type 0} (node : X → X → X) (d : X) (leaves : List X) (index : ℕ) (digest : X)
    (proof : List (Option X)) where
  abbrev whole : Option X
  whole = climb node (length leaves) index digest proof

  -- the steps so far lead to another node than the tree has at the place of the level
  pub record ReachesOtherNode (k place : ℕ) (reached : X) : Type 0 where
    pub inside : place < length (level_above node k leaves)
    pub apart : reached ≢ get_or (level_above node k leaves) place d
    pub onward : climb node (length (level_above node k leaves)) place reached (drop k proof)
        ≡ climb node (length leaves) index digest proof

  pub other_leaf : index < length leaves → digest ≢ get_or leaves index d
      → ReachesOtherNode 0 index digest
  unfolding level_above
  other_leaf h other = record { inside = h; apart = other; onward = refl }

  pub other_above : (k place : ℕ) (reached above : X) → ReachesOtherNode k place reached
      → k < length proof
      → 2 ≤ length (level_above node k leaves)
      → one_up node (length (level_above node k leaves)) place reached (get_or proof k None)
      ≡ Some above → above ≢ get_or (level_above node (k + 1) leaves) (place / 2) d
      → ReachesOtherNode (k + 1) (place / 2) above
  unfolding level_above
  other_above k place reached above so_far some several went other =
      let here = level_above node k leaves in
      let next = next_level node here in
      let shorter : length next ≡ div_ceil (length here) 2 = length-next_level node here in
      let up : level_above node (k + 1) leaves ≡ next =
      ap (λ n. level_above node n leaves) (add-one k) in
      let within : place < length here = so_far.inside in
      let led : climb node (div_ceil (length here) 2) (place / 2) above (drop (k + 1) proof)
      ≡ whole =
      goes_on node proof k (length here) place reached whole above some (omega arith) went
      so_far.onward in
      let counted : length (level_above node (k + 1) leaves) ≡ div_ceil (length here) 2 =
      ap length up ∙ shorter in
      record {
        inside = omega (arith, counted, within);
        apart = other;
        onward = subst (λ n. climb node n (place / 2) above (drop (k + 1) proof) ≡ whole)
            (sym counted) led;
      }

  -- a way that leads nowhere doesn't lead to the root
  pub nowhere_is_no_root : (k : ℕ) → 0 < length leaves → length (level_above node k leaves) ≤ 1
      → None ≡ whole → whole ≢ merkle_root node leaves
  nowhere_is_no_root k some top nowhere same =
      let root : merkle_root node leaves ≡ Some (get_or (level_above node k leaves) 0 d) =
      root_at node k leaves top
      ∙ first_alone node d (level_above node k leaves) 0 top (some_above node k leaves some) in
      cc

  -- past the highest level no step is left, or a step too many
  last_step : (k place : ℕ) (reached : X) → ReachesOtherNode k place reached
      → length (level_above node k leaves) ≤ 1 → 0 < length leaves
      → (k < length proof) ⊎ (length proof ≤ k) → whole ≢ merkle_root node leaves
  last_step k place reached all top some (inl long) same =
      nowhere_is_no_root k some top
      (too_many node proof k (length (level_above node k leaves)) place reached whole long top
      all.onward) same
  last_step k place reached all top some (inr short) same =
      let here = level_above node k leaves in
      let root : merkle_root node leaves ≡ Some (get_or here place d) =
      root_at node k leaves top ∙ first_alone node d here place top all.inside in
      let led : Some reached ≡ whole =
      ends node proof k (length here) place reached whole short top all.onward in
      let one : reached ≡ get_or here place d = cc in
      all.apart one

  pub other_root : (k place : ℕ) (reached : X) → ReachesOtherNode k place reached
      → length (level_above node k leaves) ≤ 1 → 0 < length leaves → whole ≢ merkle_root node leaves
  other_root k place reached all top some =
      last_step k place reached all top some (cases_lt k (length proof))
