-- The levels of a tree, and the proofs that are made of them.
use Rattle.std.proofs.Common.{◌≡◌, ℕ, ◌+◌, ◌-◌, ◌/◌, ◌<◌, ◌≤◌, List, [], ◌∷◌, ◌++◌, length, get_or, Option, Some, Vec, Global, refl, sym, subst, ◌∙◌, ap, arith, append_assoc, add-one}
use Rattle.std.proofs.lemmas.List.{append-nil, get_or-map, length-map}
use Rattle.std.specs.Int.{div_ceil}
use Rattle.std.specs.Option.{option_and_then}
use Rattle.merkle_tree.specs.Merkle.{IsTree, climb, first_node, level_above, levels_of, lowest, merkle_root, next_level, node_digest, one_up}
use Rattle.merkle_tree.proofs.ClimbSteps.{climb_end, climb_step}
use Rattle.merkle_tree.proofs.Levels.{first_alone, length-next_level, root_at}

module _ (levels : List (Vec (List ℕ) Global)) where
  abbrev leaves : List (List ℕ)
  leaves = lowest (levels_of levels)

  -- as many levels as vectors
  pub height : length (levels_of levels) ≡ length levels
  height = length-map levels (λ (level : Vec (List ℕ) Global). level.items)

  -- a vector has the nodes of its level
  pub level_items : (k : ℕ) (level : Vec (List ℕ) Global) → IsTree (levels_of levels)
      → k < length levels → level ≡ get_or levels k level
      → level.items ≡ level_above node_digest k leaves
  level_items k level tree inside is =
      let counted : k < length (levels_of levels) = omega (arith, height) in
      ap (λ (v : Vec (List ℕ) Global). v.items) is
      ∙ sym (get_or-map (λ (v : Vec (List ℕ) Global). v.items) levels k level [] inside)
      ∙ tree.each k counted

  -- the highest level has the root
  pub top_items : (k : ℕ) (level : Vec (List ℕ) Global) → IsTree (levels_of levels)
      → k + 1 ≡ length levels → level ≡ get_or levels k level
      → first_node level.items ≡ merkle_root node_digest leaves
  top_items k level tree last is =
      let here : length (levels_of levels) - 1 ≡ k = omega (arith, height) in
      let top : length (level_above node_digest k leaves) ≤ 1 =
      subst (λ n. length (level_above node_digest n leaves) ≤ 1) here tree.top in
      ap first_node (level_items k level tree (omega arith) is)
      ∙ sym (root_at node_digest k leaves top)

module _ {X : Type 0} (node : X → X → X) (d : X) (leaves : List X) (index : ℕ) where
  -- the steps so far lead from the leaf to the node at the place of a level
  pub record Leads (k place : ℕ) (steps : List (Option X)) : Type 0 where
    pub inside : place < length (level_above node k leaves)
    pub onward : (more : List (Option X))
        → climb node (length leaves) index (get_or leaves index d) (steps ++ more)
        ≡ climb node (length (level_above node k leaves)) place
        (get_or (level_above node k leaves) place d) more

  pub leads_begin : index < length leaves → Leads 0 index []
  unfolding level_above
  leads_begin h = record { inside = h; onward = λ more. refl }

  pub leads_more : (k place : ℕ) (steps : List (Option X)) (step : Option X) → Leads k place steps
      → 2 ≤ length (level_above node k leaves)
      → one_up node (length (level_above node k leaves)) place
      (get_or (level_above node k leaves) place d) step
      ≡ Some (get_or (next_level node (level_above node k leaves)) (place / 2) d)
      → Leads (k + 1) (place / 2) (steps ++ step ∷ [])
  unfolding level_above
  leads_more k place steps step so_far several went =
      let here = level_above node k leaves in
      let next = next_level node here in
      let shorter : length next ≡ div_ceil (length here) 2 = length-next_level node here in
      let up : level_above node (k + 1) leaves ≡ next =
      ap (λ n. level_above node n leaves) (add-one k) in
      let within : place < length here = so_far.inside in
      let led : (more : List (Option X))
      → climb node (length leaves) index (get_or leaves index d) ((steps ++ step ∷ []) ++ more)
      ≡ climb node (length next) (place / 2) (get_or next (place / 2) d) more
      = λ more.
      ap (climb node (length leaves) index (get_or leaves index d))
      (append_assoc steps (step ∷ []) more)
      ∙ so_far.onward (step ∷ more)
      ∙ climb_step node (length here) place (get_or here place d) step more (omega arith)
      ∙ ap (option_and_then (λ own. climb node (div_ceil (length here) 2) (place / 2) own more))
      went
      ∙ ap (λ n. climb node n (place / 2) (get_or next (place / 2) d) more) (sym shorter) in
      record {
        inside = subst (λ xs. place / 2 < length xs) (sym up) (omega (arith, shorter, within));
        onward = λ more. subst (λ xs.
            climb node (length leaves) index (get_or leaves index d) ((steps ++ step ∷ []) ++ more)
            ≡ climb node (length xs) (place / 2) (get_or xs (place / 2) d) more)
            (sym up) (led more);
      }

  pub leads_end : (k place : ℕ) (steps : List (Option X)) → Leads k place steps
      → length (level_above node k leaves) ≤ 1
      → climb node (length leaves) index (get_or leaves index d) steps ≡ merkle_root node leaves
  leads_end k place steps all top =
      let here = level_above node k leaves in
      ap (climb node (length leaves) index (get_or leaves index d)) (sym (append-nil steps))
      ∙ all.onward [] ∙ climb_end node (length here) place (get_or here place d) top
      ∙ sym (first_alone node d here place top all.inside) ∙ sym (root_at node k leaves top)
