-- The opening shares: balanced ranges that cover the units, in order and with no gap.
use Rattle.parallel_shares.proofs.Common.{◌≡◌, ℕ, zero, suc, ◌+◌, ◌*◌, ◌/◌, ◌%◌, ◌<◌, ◌≤◌, ◌⊎◌, inl, inr, min, cond, ltb, eqb, [], ◌∷◌, length, get_or, replicate, refl, ap, ◌∙◌, arith, cases_lt}
use Rattle.parallel_shares.proofs.Common.{cases_order, cond_both, eq-eqb, ne_eqb, nat_tests, mul-le, mod_below, length_push, get_or_append_left, get_or_push, get_or_past, length-replicate}
use Rattle.parallel_shares.proofs.Common.{get_or-replicate, packed, IsWithin, Sizes, shares_of, opening_start, IsSound, fresh, word_at, opening_words, opening, IsStateOf, pending, Holders, inside}
use Rattle.parallel_shares.proofs.Common.{in_word, same, IsOpening, Shows}
use Rattle.parallel_shares.proofs.Words.{start_of_packed, end_of_packed, within_packed}
use Rattle.parallel_shares.proofs.Counts.{inside_within, inside_before, inside_after, inside_nothing}

-- ---- where the shares begin

module _ (sizes : Sizes) (sound : IsSound sizes) where
  pub some_shares : 0 < shares_of sizes
  some_shares = cond_both sizes.whole 1 sizes.workers (λ n. 0 < n) (λ _. omega arith)
      (λ _. sound.workers_count)

  -- a share begins after the even part of those before it, and one unit more for each of the longer
  -- ones
  closed : (k : ℕ) → opening_start sizes k ≡ k * (sizes.units / shares_of sizes) + min k
      (sizes.units % shares_of sizes)
  closed zero = omega arith
  closed (suc k) = let before = closed k in grind (arith, nat_tests, before)

  -- the shares begin in order
  pub in_order : (i j : ℕ) → i ≤ j → opening_start sizes i ≤ opening_start sizes j
  in_order i j h =
      let q : ℕ = sizes.units / shares_of sizes in
      omega (arith, closed i, closed j, mul-le i q j q h (omega arith))

  -- the last share ends with the units
  pub at_end : opening_start sizes (shares_of sizes) ≡ sizes.units
  at_end =
      let n : ℕ = shares_of sizes in
      omega (arith, closed n, some_shares, mod_below sizes.units n some_shares)

  pub within_units : (k : ℕ) → k ≤ shares_of sizes → opening_start sizes k ≤ sizes.units
  within_units k h = omega (arith, in_order k (shares_of sizes) h, at_end)

-- the share, of that many first ones, that a unit opens in
abbrev owner : Sizes → ℕ → ℕ → ℕ
owner sizes zero u = 0
owner sizes (suc k) u = cond (ltb u (opening_start sizes k)) (owner sizes k u) k

-- a share that a unit opens in
abbrev Opens : Sizes → ℕ → ℕ → ℕ → Type 0
Opens sizes n u share = (share < n) × (opening_start sizes share ≤ u)
    × (u < opening_start sizes (suc share))

-- a unit before the end of the first shares opens in one of them
owns : (sizes : Sizes) (n u : ℕ) → u < opening_start sizes n → Opens sizes n u (owner sizes n u)
owns sizes zero u h = absurd (omega arith)
owns sizes (suc k) u h =
    cond_both (ltb u (opening_start sizes k)) (owner sizes k u) k (λ s. Opens sizes (suc k) u s)
    (λ e. let o = owns sizes k u (grind (arith, nat_tests)) in (omega (arith, o.0), o.1, o.2))
    (λ e. (omega arith, grind (arith, nat_tests), h))

-- ---- the words that a plan opens with

pub length_opening : (sizes : Sizes) (n : ℕ) → length (opening_words sizes n) ≡ n
length_opening sizes zero = refl
length_opening sizes (suc k) = omega (
  arith,
  length_push (opening_words sizes k)
      (packed (opening_start sizes k) (opening_start sizes (suc k))),
  length_opening sizes k,
)

pub opening_word : (sizes : Sizes) (n k : ℕ) → k < n
    → get_or (opening_words sizes n) k 0 ≡ packed (opening_start sizes k)
    (opening_start sizes (suc k))
opening_word sizes zero k h = absurd (omega arith)
opening_word sizes (suc n) k h =
    let w : ℕ = packed (opening_start sizes n) (opening_start sizes (suc n)) in
    let l = length_opening sizes n in
    elim (cases_lt k n) [
      | inl b ↦ get_or_append_left (opening_words sizes n) (w ∷ []) 0 k (omega (arith, l))
          ∙ opening_word sizes n k b
      | inr a ↦ let e : n ≡ k = omega arith in get_or_push (opening_words sizes n) w 0 k (l ∙ e)
          ∙ ap (λ i. packed (opening_start sizes i) (opening_start sizes (suc i))) e
    ]

-- the record of a seat that a plan opens with is fresh
opening_seat_row : (n i : ℕ) → get_or (replicate n fresh) i fresh ≡ fresh
opening_seat_row n i =
    elim (cases_lt i n) [
      | inl b ↦ get_or-replicate n i fresh fresh b
      | inr a ↦ get_or_past (replicate n fresh) i fresh (omega (arith, length-replicate n fresh))
    ]

-- ---- the machine before any event

module _ (sizes : Sizes) (sound : IsSound sizes) where
  -- each unit is pending at the share that it opens in
  pub first : Holders
  first u = pending (owner sizes (shares_of sizes) u)

  opens : (u : ℕ) → u < sizes.units → Opens sizes (shares_of sizes) u
      (owner sizes (shares_of sizes) u)
  opens u h = owns sizes (shares_of sizes) u (omega (arith, at_end sizes sound))

  pub first_is_opening : IsOpening sizes first
  unfolding first
  first_is_opening u h = let o = opens u h in (owner sizes (shares_of sizes) u, o.0, o.1, o.2, refl)

  -- an opening word of a share that exists is a range of units
  word_within : (k : ℕ) → k < shares_of sizes → IsWithin sizes.units (word_at (opening sizes) k)
  word_within k h =
      rw (opening_word sizes (shares_of sizes) k h)
      (within_packed sizes.units (opening_start sizes k)
      (opening_start sizes (suc k)) sound.units_fit
      (in_order sizes sound k (suc k) (omega arith))
      (within_units sizes sound (suc k) (omega arith)))

  pub opening_is_state : IsStateOf sizes (opening sizes)
  opening_is_state = record {
    sound = sound;
    plan = refl;
    shares = length_opening sizes (shares_of sizes);
    seats = length-replicate sizes.workers fresh;
    words = λ k. elim (cases_lt k (shares_of sizes)) [
      | inl b ↦ word_within k b
      | inr a ↦ rw (get_or_past (opening_words sizes (shares_of sizes)) k 0
          (omega (arith, length_opening sizes (shares_of sizes)))) (omega arith, omega arith)
    ];
    seat_rows = λ i. rw (opening_seat_row sizes.workers i) (record { load = tt; carried = tt });
  }

  -- the opening range of a share holds a unit exactly where that share is the one that the unit
  -- opens in
  at_owner : (u k p : ℕ) → Opens sizes (shares_of sizes) u p → (k ≡ p) ⊎ ((k < p) ⊎ (p < k))
      → inside u (opening_start sizes k) (opening_start sizes (suc k)) ≡ cond (eqb k p) 1 0
  at_owner u k p o (inl e) =
      rw (eq-eqb k p e, e) (inside_within u (opening_start sizes p)
      (opening_start sizes (suc p)) o.1 o.2)
  at_owner u k p o (inr (inl l)) =
      rw (ne_eqb k p (λ e. omega arith))
      (inside_after u (opening_start sizes k) (opening_start sizes (suc k))
      (omega (arith, in_order sizes sound (suc k) p l, o.1)))
  at_owner u k p o (inr (inr g)) =
      rw (ne_eqb k p (λ e. omega arith))
      (inside_before u (opening_start sizes k) (opening_start sizes (suc k))
      (omega (arith, in_order sizes sound (suc p) k g, o.2)))

  -- the opening word of a share holds a unit exactly where the unit opens in that share
  holds : (u k : ℕ) → u < sizes.units
      → in_word u (word_at (opening sizes) k) ≡ same (pending k) (first u)
  unfolding first
  holds u k h =
      let n : ℕ = shares_of sizes in
      let a : ℕ = opening_start sizes k in
      let b : ℕ = opening_start sizes (suc k) in
      let o = opens u h in
      elim (cases_lt k n) [
        | inl l ↦
            let fit : b ≤ 65535 =
            omega (arith, within_units sizes sound (suc k) (omega arith), sound.units_fit) in
            rw (opening_word sizes n k l, start_of_packed a b fit, end_of_packed a b fit)
            (at_owner u k (owner sizes n u) o (cases_order k (owner sizes n u)))
        | inr m ↦
            rw (
              get_or_past (opening_words sizes n) k 0 (omega (arith, length_opening sizes n)),
              ne_eqb k (owner sizes n u) (λ e. omega (arith, o.0)),
            )
            (inside_nothing u 0 0 (omega arith))
      ]

  pub opening_shows : Shows sizes (opening sizes) first
  unfolding first
  opening_shows = record {
    words = holds;
    transits = λ u i h. rw (opening_seat_row sizes.workers i) refl;
    claims = λ c i h. rw (opening_seat_row sizes.workers i) refl;
    no_more = λ c i h. rw (opening_seat_row sizes.workers i) refl;
  }
