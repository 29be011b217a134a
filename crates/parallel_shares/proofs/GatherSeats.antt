-- One seat that takes in the others, one after another.
use Rattle.parallel_shares.proofs.Common.{◌≡◌, ℕ, ◌+◌, ◌<◌, List, [], ◌∷◌, ◌++◌, length, get_or, set, inl, inr, refl, sym, ap, subst, ◌∙◌, arith, cases_eq, length_push, get_or_append_left}
use Rattle.parallel_shares.proofs.Common.{get_or_push, length-set, get_or-set_same, get_or-set_other, View, Seat, Shares, in_ranges, same_number, total, times, gathered, known, index_of, IsSeatOf}
use Rattle.parallel_shares.proofs.Common.{AreSeatsOf, HasAll}
use Rattle.parallel_shares.proofs.Totals.{total_append, in_ranges_append}

-- a view and some seats have together what all seats had
pub record Gathering (view : View) (rest all : List Seat) : Type 0 where
  pub owns : (k : ℕ) → times k view.owns + total (λ s. times k (known s).owns) rest ≡ total
      (λ s. times k (known s).owns) all
  pub claims : (c : ℕ) → in_ranges c view.claims + total
      (λ s. in_ranges c (known s).claims) rest ≡ total (λ s. in_ranges c (known s).claims) all
  pub transit : (u : ℕ) → in_ranges u view.transit + total
      (λ s. in_ranges u (known s).transit) rest ≡ total (λ s. in_ranges u (known s).transit) all
  pub empties : (k : ℕ) → times k view.empties + total (λ s. times k (known s).empties) rest ≡ total
      (λ s. times k (known s).empties) all
  pub changes : view.changes + total (λ s. (known s).changes) rest ≡ total
      (λ s. (known s).changes) all

-- the last seat of a list, at the beginning
pub gathers_one : (rest all : List Seat) (x : Seat) → all ≡ rest ++ x ∷ []
    → Gathering (known x) rest all
gathers_one rest all x e =
    subst (λ xs. Gathering (known x) rest xs) (sym e)
    (record {
      owns = λ k. omega (arith, total_append (λ (s : Seat). times k (known s).owns) rest (x ∷ []));
      claims =
          λ c. omega (
            arith,
            total_append (λ (s : Seat). in_ranges c (known s).claims) rest
                (x ∷ []),
          );
      transit =
          λ u. omega (
            arith,
            total_append (λ (s : Seat). in_ranges u (known s).transit) rest
                (x ∷ []),
          );
      empties =
          λ k. omega (arith, total_append (λ (s : Seat). times k (known s).empties) rest (x ∷ []));
      changes = omega (arith, total_append (λ (s : Seat). (known s).changes) rest (x ∷ []));
    })

-- the last seat that is left is taken in
pub gathers_more : (view : View) (old rest all : List Seat) (x : Seat) → Gathering view old all
    → old ≡ rest ++ x ∷ [] → Gathering (gathered view (known x)) rest all
gathers_more view old rest all x has e =
    let g = subst (λ xs. Gathering view xs all) e has in
    record {
      owns =
          λ k. omega (
            arith,
            g.owns k,
            total_append (same_number k) view.owns (known x).owns,
            total_append (λ (s : Seat). times k (known s).owns) rest (x ∷ []),
          );
      claims =
          λ c. omega (
            arith,
            g.claims c,
            in_ranges_append c view.claims (known x).claims,
            total_append (λ (s : Seat). in_ranges c (known s).claims) rest (x ∷ []),
          );
      transit =
          λ u. omega (
            arith,
            g.transit u,
            in_ranges_append u view.transit (known x).transit,
            total_append (λ (s : Seat). in_ranges u (known s).transit) rest (x ∷ []),
          );
      empties =
          λ k. omega (
            arith,
            g.empties k,
            total_append (same_number k) view.empties
                (known x).empties,
            total_append (λ (s : Seat). times k (known s).empties) rest (x ∷ []),
          );
      changes =
          omega (arith, g.changes, total_append (λ (s : Seat). (known s).changes) rest (x ∷ []));
    }

-- none is left
pub gathers_all : (view : View) (rest all : List Seat) → rest ≡ [] → Gathering view rest all
    → HasAll view all
gathers_all view rest all e has =
    let g = subst (λ xs. Gathering view xs all) e has in
    record {
      owns = λ k. omega (arith, g.owns k);
      claims = λ c. omega (arith, g.claims c);
      transit = λ u. omega (arith, g.transit u);
      empties = λ k. omega (arith, g.empties k);
      changes = omega (arith, g.changes);
    }

-- what holds of each seat holds of those before the last, and of the last
module _ (P : Seat → Type 0) (rest old : List Seat) (x : Seat) (e : old ≡ rest ++ x ∷ [])
    (each : (i : ℕ) (d : Seat) → i < length old → P (get_or old i d)) where
  pub each_left : (i : ℕ) (d : Seat) → i < length rest → P (get_or rest i d)
  each_left i d h =
      subst P (ap (λ xs. get_or xs i d) e ∙ get_or_append_left rest (x ∷ []) d i h)
      (each i d (omega (arith, h, ap length e, length_push rest x)))

  pub the_last : P x
  the_last =
      subst P (ap (λ xs. get_or xs (length rest) x) e ∙ get_or_push rest x x (length rest) refl)
      (each (length rest) x (omega (arith, ap length e, length_push rest x)))

-- all seats, when one of them has taken a step
pub seats_stepped : (shares : Shares) (seats : List Seat) (i : ℕ) (x y : Seat)
    → AreSeatsOf shares seats → i < length seats → x ≡ get_or seats i x → IsSeatOf shares y
    → index_of y ≡ index_of x → AreSeatsOf shares (set seats i y)
seats_stepped shares seats i x y all there was belongs same =
    let number : index_of y ≡ i = same
    ∙ subst (λ s. index_of s ≡ i) (sym was) (all.order i x there) in
    record {
      count = length-set seats i y ∙ all.count;
      each = λ k d h. elim (cases_eq k i) as (λ _. IsSeatOf shares (get_or (set seats i y) k d)) [
        | inl e ↦ rw (e, get_or-set_same seats i y d there) belongs
        | inr apart ↦ rw (get_or-set_other seats i k y d apart)
            (all.each k d (omega (arith, h, length-set seats i y)))
      ];
      order = λ k d h. elim (cases_eq k i) as (λ _. index_of (get_or (set seats i y) k d) ≡ k) [
        | inl e ↦ rw (e, get_or-set_same seats i y d there) number
        | inr apart ↦ rw (get_or-set_other seats i k y d apart)
            (all.order k d (omega (arith, h, length-set seats i y)))
      ];
    }
