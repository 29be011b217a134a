-- The opening words are a balanced cut of the units.
use Rattle.parallel_shares.proofs.Common.{◌≡◌, ℕ, zero, suc, ◌+◌, ◌<◌, ◌≤◌, [], ◌∷◌, ◌++◌, map, get_or, get_or-map, refl, sym, ap, ◌∙◌, subst, arith, nat_tests, map-append, length-map, Range}
use Rattle.parallel_shares.proofs.Common.{range_length, CutsFrom, IsEven, BalancedCut, start_of, end_of, range_of, packed, Sizes, shares_of, opening_size, opening_start, IsSound, opening_words}
use Rattle.parallel_shares.proofs.Common.{opening}
use Rattle.parallel_shares.proofs.Cuts.{CutsFrom-push}
use Rattle.parallel_shares.proofs.Words.{start_of_packed, end_of_packed}
use Rattle.parallel_shares.proofs.Openings.{in_order, at_end, within_units, length_opening, opening_word}

module _ (sizes : Sizes) (sound : IsSound sizes) where
  end_fits : (k : ℕ) → k ≤ shares_of sizes → opening_start sizes k ≤ 65535
  end_fits k h = omega (arith, within_units sizes sound k h, sound.units_fit)

  -- the first words cut the units before the next share
  cuts : (k : ℕ) → k ≤ shares_of sizes
      → CutsFrom 0 (map range_of (opening_words sizes k)) (opening_start sizes k)
  cuts zero h = refl
  cuts (suc k) h =
      let a : ℕ = opening_start sizes k in
      let b : ℕ = opening_start sizes (suc k) in
      let fit = end_fits (suc k) h in
      let s : start_of (packed a b) ≡ a = start_of_packed a b fit in
      let e : end_of (packed a b) ≡ b = end_of_packed a b fit in
      let o : start_of (packed a b) ≤ end_of (packed a b) =
      omega (arith, s, e, in_order sizes sound k (suc k) (omega arith)) in
      rw (map-append range_of (opening_words sizes k) (packed a b ∷ []))
      (subst (λ (to : ℕ). CutsFrom 0
      (map range_of (opening_words sizes k) ++ range_of (packed a b) ∷ []) to) e
      (CutsFrom-push 0 (map range_of (opening_words sizes k)) (range_of (packed a b))
      (subst (λ (from : ℕ). CutsFrom 0 (map range_of (opening_words sizes k)) from) (sym s)
      (cuts k (omega arith))) o))

  -- how many units the word of a share holds
  size : (k : ℕ) (d : Range ℕ) → k < shares_of sizes
      → range_length (get_or (map range_of (opening_words sizes (shares_of sizes))) k
      d) ≡ opening_size sizes k
  size k d h =
      let n : ℕ = shares_of sizes in
      let a : ℕ = opening_start sizes k in
      let b : ℕ = opening_start sizes (suc k) in
      let fit = end_fits (suc k) (omega arith) in
      let w : get_or (map range_of (opening_words sizes n)) k d ≡ range_of (packed a b) =
      get_or-map range_of (opening_words sizes n) k 0 d (omega (arith, length_opening sizes n))
      ∙ ap range_of (opening_word sizes n k h) in
      ap range_length w ∙ omega (arith, start_of_packed a b fit, end_of_packed a b fit)

  even : IsEven (map range_of (opening_words sizes (shares_of sizes)))
  even i j d l m =
      let n : ℕ = shares_of sizes in
      let h : j < n =
      omega (arith, length-map (opening_words sizes n) range_of, length_opening sizes n) in
      let a = size i d (omega arith) in
      let b = size j d h in
      let c : (opening_size sizes j ≤ opening_size sizes i)
      × (opening_size sizes i ≤ opening_size sizes j + 1) = (
        grind (arith, nat_tests),
        grind (arith, nat_tests),
      ) in
      (omega (arith, a, b, c.0), omega (arith, a, b, c.1))

  pub opening_balanced : BalancedCut sizes.units (map range_of (opening sizes).words)
  opening_balanced = (
    subst (λ (to : ℕ). CutsFrom 0 (map range_of (opening_words sizes (shares_of sizes))) to)
        (at_end sizes sound) (cuts (shares_of sizes) (omega arith)),
    even,
  )
