-- Neighbouring pairs of a list: how many there are, a cut of them, one pair taken, the odd item.
use Rattle.parallel_bridge.proofs.Common.{◌≡◌, ℕ, suc, ◌*◌, ◌/◌, ◌%◌, ◌≤◌, List, [], ◌∷◌, ◌++◌, length, take, drop, Option, Some, None, IsSome, refl, sym, ap, subst, ◌∙◌, arith, Contains}
use Rattle.parallel_bridge.proofs.Common.{length-append, length-take-le, take-append-drop, false≢true, Contains-append_left, Contains-append_right, odd_of, pairs_of}
use Rattle.std.specs.Option.{option_to_list}

module _ {T : Type 0} where
  -- half as many pairs as items
  pub length_pairs : (xs : List T) → length (pairs_of xs) ≡ length xs / 2
  length_pairs (x ∷ (y ∷ xs)) =
      let rest = length_pairs xs in omega (arith, rest)
  length_pairs u = refl

  -- the first two items are the first pair
  pub two_taken : (all mid rest : List T) (x y : T) → all ≡ x ∷ mid → mid ≡ y ∷ rest
      → pairs_of all ≡ (x, y) ∷ pairs_of rest
  two_taken all mid rest x y first second = ap pairs_of (first ∙ ap (λ l. x ∷ l) second)

  -- the pairs of two lists, of which the front one has an even number of items
  pub pairs_append : (xs ys : List T) (n : ℕ) → length xs ≡ 2 * n
      → pairs_of (xs ++ ys) ≡ pairs_of xs ++ pairs_of ys
  pairs_append [] ys n even = refl
  pairs_append (x ∷ (y ∷ xs)) ys (suc n) even =
      ap (λ l. (x, y) ∷ l) (pairs_append xs ys n (omega (arith, even)))
  pairs_append u ys v even = absurd (omega (arith, even))

  -- an even number of items has no odd one
  pub no_odd : (xs : List T) → length xs % 2 ≡ 0 → odd_of xs ≡ None
  no_odd [] even = refl
  no_odd (x ∷ []) even = absurd (omega (arith, even))
  no_odd (x ∷ (y ∷ xs)) even = no_odd xs (omega (arith, even))

  -- the item after an even number of them is the odd one, and in no pair
  pub one_odd : (xs : List T) (z : T) → length xs % 2 ≡ 0
      → (odd_of (xs ++ z ∷ []) ≡ Some z) × (pairs_of (xs ++ z ∷ []) ≡ pairs_of xs)
  one_odd [] z even = (refl, refl)
  one_odd (x ∷ []) z even = absurd (omega (arith, even))
  one_odd (x ∷ (y ∷ xs)) z even =
      let rest = one_odd xs z (omega (arith, even)) in
      (rest.0, ap (λ l. (x, y) ∷ l) rest.1)

  -- the last item taken of an odd number of them
  pub odd_pop : (all front : List T) (out : Option T) → all ≡ front ++ option_to_list out
      → IsSome out → length all % 2 ≡ 1 → (odd_of all ≡ out) × (pairs_of all ≡ pairs_of front)
  odd_pop all front None at some odd = absurd (false≢true some)
  odd_pop all front (Some z) at some odd =
      let long = ap length at ∙ length-append front (z ∷ []) in
      let last = one_odd front z (omega (arith, long, odd)) in
      (ap odd_of at ∙ last.0, ap pairs_of at ∙ last.1)

  -- the pairs of that many pairs' items, the first ones, and those of the rest
  pub pairs_cut : (all : List T) (i : ℕ) → i ≤ length all / 2
      → pairs_of (take (2 * i) all) ++ pairs_of (drop (2 * i) all) ≡ pairs_of all
  pairs_cut all i within =
      let front = length-take-le (2 * i) all (omega (arith, within)) in
      sym (pairs_append (take (2 * i) all) (drop (2 * i) all) i front)
      ∙ ap pairs_of (take-append-drop (2 * i) all)

  -- there are that many of the first
  pub pairs_front : (all : List T) (i : ℕ) → i ≤ length all / 2
      → length (pairs_of (take (2 * i) all)) ≡ i
  pairs_front all i within =
      let front = length-take-le (2 * i) all (omega (arith, within)) in
      let half = length_pairs (take (2 * i) all) in
      omega (arith, front, half)

  -- the pairs of either part are pairs of the list
  pub pair_in_front : (all : List T) (i : ℕ) (p : T × T) → i ≤ length all / 2
      → Contains (pairs_of (take (2 * i) all)) p → Contains (pairs_of all) p
  pair_in_front all i p within h = subst (λ l. Contains l p) (pairs_cut all i within)
      (Contains-append_left (pairs_of (take (2 * i) all)) (pairs_of (drop (2 * i) all)) p h)

  pub pair_in_back : (all : List T) (i : ℕ) (p : T × T) → i ≤ length all / 2
      → Contains (pairs_of (drop (2 * i) all)) p → Contains (pairs_of all) p
  pair_in_back all i p within h = subst (λ l. Contains l p) (pairs_cut all i within)
      (Contains-append_right (pairs_of (take (2 * i) all)) (pairs_of (drop (2 * i) all)) p h)
