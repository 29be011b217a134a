-- What a machine shows after units went from one holder to another.
use Rattle.parallel_shares.proofs.Common.{◌≡◌, ◌≢◌, ℕ, zero, suc, ◌+◌, ◌/◌, ◌<◌, ◌≤◌, inl, inr, refl, sym, ap, ◌∙◌, arith, eq-eqb, ne_eqb, cases_eq, div_below, Sizes, IsSound, Machine, word_at}
use Rattle.parallel_shares.proofs.Common.{row_at, Holder, pending, carried, claimed, Holders, Hands, inside, in_word, in_transit, in_ranges, same_number, same, Shows}
use Rattle.parallel_shares.proofs.Counts.{inside_within, inside_before, inside_after, inside_below}

-- ---- holders that are the same

pub same_self : (x : Holder) → same x x ≡ 1
same_self (pending i) = rw (eq-eqb i i refl) refl
same_self (carried i) = rw (eq-eqb i i refl) refl
same_self (claimed i) = rw (eq-eqb i i refl) refl

-- two numbers whose test counts 1 are one
one_number : (i j : ℕ) → same_number i j ≡ 1 → j ≡ i
one_number i j h =
    elim (cases_eq i j) [
      | inl e ↦ sym e
      | inr n ↦ absurd
          (let z : same_number i j ≡ 0 = rw (ne_eqb i j n) refl in omega (arith, h, z))
    ]

pub same_holder : (x y : Holder) → same x y ≡ 1 → y ≡ x
same_holder (pending i) (pending j) h = ap pending (one_number i j h)
same_holder (carried i) (carried j) h = ap carried (one_number i j h)
same_holder (claimed i) (claimed j) h = ap claimed (one_number i j h)
same_holder (pending i) (carried j) h = absurd (omega arith)
same_holder (pending i) (claimed j) h = absurd (omega arith)
same_holder (carried i) (pending j) h = absurd (omega arith)
same_holder (carried i) (claimed j) h = absurd (omega arith)
same_holder (claimed i) (pending j) h = absurd (omega arith)
same_holder (claimed i) (carried j) h = absurd (omega arith)

-- other numbers, other holders
pub other_pending : (i j : ℕ) → i ≢ j → same (pending i) (pending j) ≡ 0
other_pending i j n = rw (ne_eqb i j n) refl

pub other_carried : (i j : ℕ) → i ≢ j → same (carried i) (carried j) ≡ 0
other_carried i j n = rw (ne_eqb i j n) refl

pub other_claimed : (i j : ℕ) → i ≢ j → same (claimed i) (claimed j) ≡ 0
other_claimed i j n = rw (ne_eqb i j n) refl

-- ---- handing units over

-- the taker where a count is not 0, else the holder from before
pub hand : ℕ → Holder → Holder → Holder
hand zero taker holder = holder
hand (suc _) taker holder = taker

-- the holders after the units from one up to another went to a taker
pub handed : ℕ → ℕ → Holder → Holders → Holders
handed from to taker holders u = hand (inside u from to) taker (holders u)

-- what a count does at a holder when units go from a giver to a taker: it loses them, wins them, or
-- stays
pub data Change (giver taker holder : Holder) (moved old new : ℕ) : Type 0 where
  gives : holder ≡ giver → same holder taker ≡ 0 → new + moved ≡ old
      → Change giver taker holder moved old new
  takes : holder ≡ taker → same holder giver ≡ 0 → new ≡ old + moved
      → Change giver taker holder moved old new
  keeps : same holder giver ≡ 0 → same holder taker ≡ 0 → new ≡ old
      → Change giver taker holder moved old new

-- where the count agreed with the holder, it still does after the change
settled : (giver taker x y : Holder) (moved old new : ℕ) → Change giver taker x moved old new
    → moved ≤ 1 → (moved ≡ 1 → y ≡ giver) → old ≡ same x y → new ≡ same x (hand moved taker y)
unfolding hand
settled giver taker x y zero old new (gives e n c) b g o = omega arith
settled giver taker x y zero old new (takes e n c) b g o = omega arith
settled giver taker x y zero old new (keeps m n c) b g o = omega arith
settled giver taker x y (suc zero) old new (gives e n c) b g o =
    let s : same x y ≡ 1 = ap (λ z. same x z) (g refl ∙ sym e) ∙ same_self x in omega arith
settled giver taker x y (suc zero) old new (takes e n c) b g o =
    let s : same x y ≡ 0 = ap (λ z. same x z) (g refl) ∙ n in
    let t : same x taker ≡ 1 = ap (λ z. same x z) (sym e) ∙ same_self x in
    omega arith
settled giver taker x y (suc zero) old new (keeps m n c) b g o =
    let s : same x y ≡ 0 = ap (λ z. same x z) (g refl) ∙ m in omega arith
settled giver taker x y (suc (suc k)) old new c b g o = absurd (omega arith)

-- units that go from giver to taker
pub hands_over : (units from to : ℕ) (giver taker : Holder) (holders : Holders)
    → ((u : ℕ) → u < units → inside u from to ≡ 1 → holders u ≡ giver)
    → Hands units from to giver taker holders (handed from to taker holders)
unfolding hand handed
hands_over units from to giver taker holders g = record {
  given = λ u h s e. g u h (inside_within u from to s e);
  taken = λ u h s e. rw (inside_within u from to s e) refl;
  left = λ u h l. rw (inside_before u from to l) refl;
  right = λ u h r. rw (inside_after u from to r) refl;
}

-- what changes at each holder when a machine hands units over
pub record Changes (sizes : Sizes) (from to : ℕ) (giver taker : Holder)
    (old new : Machine) : Type 0 where
  pub words : (u share : ℕ) → u < sizes.units
      → Change giver taker (pending share) (inside u from to) (in_word u (word_at old share))
      (in_word u (word_at new share))
  pub transits : (u seat : ℕ) → u < sizes.units
      → Change giver taker (carried seat) (inside u from to)
      (in_transit u (row_at old seat).transit) (in_transit u (row_at new seat).transit)
  pub claims : (c seat : ℕ) → c < sizes.cells
      → Change giver taker (claimed seat) (inside (c / sizes.unit) from to)
      (in_ranges c (row_at old seat).claims) (in_ranges c (row_at new seat).claims)
  pub no_more : (c seat : ℕ) → sizes.cells ≤ c
      → in_ranges c (row_at new seat).claims ≡ in_ranges c (row_at old seat).claims

-- the unit of a cell is one of the units
pub unit_of_cell : (sizes : Sizes) → IsSound sizes → (c : ℕ) → c < sizes.cells
    → c / sizes.unit < sizes.units
unit_of_cell sizes sound c h =
    div_below c sizes.unit sizes.units sound.unit_counts (omega (arith, sound.units_cover))

-- a machine that hands units over shows the holders from before with the units handed over
pub shows_handed : (sizes : Sizes) → IsSound sizes
    → (from to : ℕ) (giver taker : Holder) (old new : Machine) (holders : Holders)
    → Changes sizes from to giver taker old new
    → ((u : ℕ) → u < sizes.units → inside u from to ≡ 1 → holders u ≡ giver)
    → Shows sizes old holders → Shows sizes new (handed from to taker holders)
unfolding handed
shows_handed sizes sound from to giver taker old new holders c g s = record {
  words = λ u share h. settled giver taker (pending share) (holders u) (inside u from to) _ _
      (c.words u share h) (inside_below u from to) (g u h) (s.words u share h);
  transits = λ u seat h. settled giver taker (carried seat) (holders u) (inside u from to) _ _
      (c.transits u seat h) (inside_below u from to) (g u h) (s.transits u seat h);
  claims = λ e seat h. let u = e / sizes.unit in settled giver taker (claimed seat) (holders u)
      (inside u from to) _ _ (c.claims e seat h) (inside_below u from to)
      (g u (unit_of_cell sizes sound e h)) (s.claims e seat h);
  no_more = λ e seat h. c.no_more e seat h ∙ s.no_more e seat h;
}

-- a machine with the same words, transits and claims shows the same holders
pub shows_still : (sizes : Sizes) (old new : Machine) (holders : Holders)
    → ((share : ℕ) → word_at new share ≡ word_at old share)
    → ((seat : ℕ) → (row_at new seat).transit ≡ (row_at old seat).transit)
    → ((seat : ℕ) → (row_at new seat).claims ≡ (row_at old seat).claims)
    → Shows sizes old holders → Shows sizes new holders
shows_still sizes old new holders w t c s = record {
  words = λ u share h. rw (w share) (s.words u share h);
  transits = λ u seat h. rw (t seat) (s.transits u seat h);
  claims = λ e seat h. rw (c seat) (s.claims e seat h);
  no_more = λ e seat h. rw (c seat) (s.no_more e seat h);
}
