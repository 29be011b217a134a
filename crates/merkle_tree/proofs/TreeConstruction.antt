-- A tree, level by level.
use Rattle.std.proofs.Common.{◌≡◌, ℕ, ◌+◌, ◌-◌, ◌<◌, ◌≤◌, List, [], ◌∷◌, ◌++◌, length, get_or, map, Vec, Global, refl, sym, subst, ◌∙◌, ap, arith, inl, inr, ◌⊎◌}
use Rattle.std.proofs.Math.ListN.{get_or-append}
use Rattle.std.proofs.lemmas.List.{ext_get_or, get_or_push, length-map, length_push, map-append}
use Rattle.std.proofs.lemmas.Bool.{cases_lt}
use Rattle.std.proofs.lemmas.List.FromFn.{get_or-map-range_with_len, length-map-range_with_len}
use Rattle.std.specs.List.{range_with_len}
use Rattle.merkle_tree.specs.Merkle.{AreLevels, IsTree, level_above, levels_of, lowest, next_level, node_digest}
use Rattle.merkle_tree.proofs.Levels.{level_next}

-- a list by its indices
pub by_indices : {X : Type 0} (d : X) (xs : List X) (n : ℕ) → n ≡ length xs
    → map (λ i. get_or xs i d) (range_with_len 0 n) ≡ xs
by_indices d xs n counted =
    let long : length (map (λ i. get_or xs i d) (range_with_len 0 n)) ≡ n =
    length-map-range_with_len (λ i. get_or xs i d) 0 n in
    ext_get_or d _ xs (long ∙ counted)
    (λ i h. get_or-map-range_with_len (λ j. get_or xs j d) 0 n i i d (omega (arith, long))
    (omega arith))

-- a number below one more than another is below it, or the other itself
below_or : (n k : ℕ) → k < n + 1 → (k < n) ⊎ (n ≤ k) → (k < n) ⊎ (k ≡ n)
below_or n k h (inl below) = inl below
below_or n k h (inr above) = inr (omega arith)

module _ (leaves : List (List ℕ)) where
  -- no level yet
  first_level : AreLevels leaves []
  first_level = record { each = λ k h. absurd (omega arith); several = λ k h. absurd (omega arith) }

  pub begun : (levels : List (Vec (List ℕ) Global)) → levels ≡ []
      → AreLevels leaves (levels_of levels)
      × (leaves ≡ level_above node_digest (length levels) leaves)
  unfolding level_above
  begun levels none =
      subst (λ all. AreLevels leaves (levels_of all)
      × (leaves ≡ level_above node_digest (length all) leaves)) (sym none) (first_level, refl)

  module _ (levels : List (List (List ℕ))) (level : List (List ℕ))
      (so_far : AreLevels leaves levels)
      (here : level ≡ level_above node_digest (length levels) leaves) where
    -- each level, with one more
    each_with : (k : ℕ) → (k < length levels) ⊎ (k ≡ length levels)
        → get_or (levels ++ level ∷ []) k [] ≡ level_above node_digest k leaves
    each_with k (inl below) = get_or-append levels (level ∷ []) [] k below ∙ so_far.each k below
    each_with k (inr last) = get_or_push levels level [] k (sym last) ∙ here
        ∙ ap (λ n. level_above node_digest n leaves) (sym last)

    several_with : (k : ℕ) → 2 ≤ length level → (k < length levels) ⊎ (k ≡ length levels)
        → 2 ≤ length (level_above node_digest k leaves)
    several_with k long (inl below) = so_far.several k below
    several_with k long (inr last) =
        subst (λ n. 2 ≤ length (level_above node_digest n leaves)) (sym last)
        (subst (λ xs. 2 ≤ length xs) here long)

    which_of : (k : ℕ) → k < length (levels ++ level ∷ [])
        → (k < length levels) ⊎ (k ≡ length levels)
    which_of k h = below_or (length levels) k (omega (arith, h, length_push levels level))
        (cases_lt k (length levels))

    pub one_more : 2 ≤ length level → AreLevels leaves (levels ++ level ∷ [])
    one_more long = record {
      each = λ k h. each_with k (which_of k h);
      several = λ k h. several_with k long (which_of k h);
    }

    -- the lowest level is the leaves
    lowest_with : lowest (levels ++ level ∷ []) ≡ leaves
    unfolding level_above
    lowest_with = each_with 0 (which_of 0 (omega (arith, length_push levels level)))

    -- the last level is the highest
    pub all_levels : length level ≤ 1
        → IsTree (levels ++ level ∷ []) × (lowest (levels ++ level ∷ []) ≡ leaves)
    all_levels short =
        let all = levels ++ level ∷ [] in
        let counted : length all ≡ length levels + 1 = length_push levels level in
        let last : length all - 1 ≡ length levels = omega (arith, counted) in
        let top : length (level_above node_digest (length levels) leaves) ≤ 1 =
        subst (λ xs. length xs ≤ 1) here short in
        let over : (k : ℕ) → k + 1 < length all → 2 ≤ length (level_above node_digest k leaves) =
        λ k h. so_far.several k (omega (arith, h, counted)) in (
          record {
            each = λ k h. each_with k (which_of k h)
                ∙ ap (level_above node_digest k) (sym lowest_with);
            several = λ k h. subst (λ xs. 2 ≤ length (level_above node_digest k xs))
                (sym lowest_with) (over k h);
            some = omega (arith, counted);
            top = subst (λ n. length (level_above node_digest n (lowest all)) ≤ 1) (sym last)
                (subst (λ xs. length (level_above node_digest (length levels) xs) ≤ 1)
                (sym lowest_with) top);
          },
          lowest_with,
        )

-- the same of the vectors that keep the levels
module _ (leaves : List (List ℕ)) (levels after : List (Vec (List ℕ) Global))
    (level : Vec (List ℕ) Global) (pushed : after ≡ levels ++ level ∷ [])
    (so_far : AreLevels leaves (levels_of levels))
    (here : level.items ≡ level_above node_digest (length levels) leaves) where
  as_lists : levels_of after ≡ levels_of levels ++ level.items ∷ []
  as_lists = ap levels_of pushed
      ∙ map-append (λ (v : Vec (List ℕ) Global). v.items) levels (level ∷ [])

  there : level.items ≡ level_above node_digest (length (levels_of levels)) leaves
  there = here ∙ ap (λ n. level_above node_digest n leaves)
      (sym (length-map levels (λ (v : Vec (List ℕ) Global). v.items)))

  pub pushed_level : 2 ≤ length level.items → AreLevels leaves (levels_of after)
  pushed_level long = subst (AreLevels leaves) (sym as_lists)
      (one_more leaves (levels_of levels) level.items so_far there long)

  pub pushed_next : (next : List (List ℕ)) → next ≡ next_level node_digest level.items
      → next ≡ level_above node_digest (length after) leaves
  pushed_next next above =
      above ∙ ap (next_level node_digest) here ∙ sym (level_next node_digest (length levels) leaves)
      ∙ ap (λ n. level_above node_digest n leaves)
      (sym (ap length pushed ∙ length_push levels level))

  pub pushed_last : length level.items ≤ 1
      → IsTree (levels_of after) × (lowest (levels_of after) ≡ leaves)
  pushed_last short = subst (λ all. IsTree all × (lowest all ≡ leaves)) (sym as_lists)
      (all_levels leaves (levels_of levels) level.items so_far there short)
