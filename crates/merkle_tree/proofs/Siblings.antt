-- The siblings of nodes, and the steps that a tree's own levels give.
use Rattle.std.proofs.Common.{◌≡◌, ◌≢◌, ℕ, ◌+◌, ◌-◌, ◌/◌, ◌%◌, ◌<◌, true, false, ◌==◌, List, length, get_or, Some, None, sym, ◌∙◌, ap, arith, eq-eqb}
use Rattle.std.proofs.lemmas.Bool.{cond-true, cond-false, or_parts, or_from, lt-ltb, ltb-true}
use Rattle.merkle_tree.specs.Merkle.{has_sibling, joined, next_level, one_up}
use Rattle.merkle_tree.proofs.Levels.{above_alone, above_pair}

is_odd : (i : ℕ) → i % 2 ≡ 1 → (i % 2 == 1) ≡ true
is_odd i h = eq-eqb (i % 2) 1 h

not_odd : (i : ℕ) → i % 2 ≢ 1 → (i % 2 == 1) ≡ false
not_odd i h = grind arith

-- a node without a sibling is an odd last one
pub last_of : (count i : ℕ) → has_sibling count i ≡ false → i < count
    → (i % 2 ≡ 0) × (i + 1 ≡ count)
last_of count i h inside = grind (arith, or_parts, lt-ltb)

pub next_of : (count i : ℕ) → has_sibling count i ≡ true → i % 2 ≢ 1 → i + 1 < count
next_of count i h even = grind (arith, or_from, ltb-true)

module _ {X : Type 0} (node : X → X → X) (d : X) (xs : List X) (i : ℕ)
    (inside : i < length xs) where
  pub step_alone : has_sibling (length xs) i ≡ false
      → one_up node (length xs) i (get_or xs i d) None
      ≡ Some (get_or (next_level node xs) (i / 2) d)
  step_alone h =
      let told = last_of (length xs) i h inside in
      cond-false (has_sibling (length xs) i) None (Some (get_or xs i d)) h
      ∙ ap Some (sym (above_alone node d xs (i / 2) i (omega (arith, told.0)) told.1))

  pub step_right : has_sibling (length xs) i ≡ true → i % 2 ≡ 1
      → one_up node (length xs) i (get_or xs i d) (Some (get_or xs (i - 1) d))
      ≡ Some (get_or (next_level node xs) (i / 2) d)
  step_right h odd =
      let own = get_or xs i d in
      let left = get_or xs (i - 1) d in
      cond-true (has_sibling (length xs) i) (Some (joined node i own left)) None h
      ∙ ap Some (cond-true (i % 2 == 1) (node left own) (node own left) (is_odd i odd))
      ∙ ap Some (sym (above_pair node d xs (i / 2) (i - 1) i (omega (arith, odd))
      (omega (arith, odd)) inside))

  pub step_left : has_sibling (length xs) i ≡ true → i % 2 ≢ 1
      → one_up node (length xs) i (get_or xs i d) (Some (get_or xs (i + 1) d))
      ≡ Some (get_or (next_level node xs) (i / 2) d)
  step_left h even =
      let own = get_or xs i d in
      let right = get_or xs (i + 1) d in
      let there : i + 1 < length xs = next_of (length xs) i h even in
      cond-true (has_sibling (length xs) i) (Some (joined node i own right)) None h
      ∙ ap Some (cond-false (i % 2 == 1) (node right own) (node own right) (not_odd i even))
      ∙ ap Some (sym (above_pair node d xs (i / 2) i (i + 1) (omega (arith, even))
      (omega (arith, even)) there))
