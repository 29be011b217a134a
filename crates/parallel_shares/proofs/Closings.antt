-- When all seats are back, one view has all that was claimed, and the words have the rest.
use Rattle.parallel_shares.proofs.Common.{◌≡◌, ℕ, suc, ◌+◌, ◌/◌, ◌<◌, Bool, true, false, cond, List, [], ◌∷◌, length, get_or, refl, sym, ap, subst, ◌∙◌, arith, some, get_elem?, State, View, Seat}
use Rattle.parallel_shares.proofs.Common.{Shares, start_of, end_of, IsEmptyWord, Sizes, shares_of, opening_words, inside, in_word, in_ranges, same_number, total, times, in_view, IsSharingOf}
use Rattle.parallel_shares.proofs.Common.{place_of, used, Spaced, ranges_of, known, index_of, claims_of, AreSeatsOf, IsPartition, AllDone, AllEmpty, EachCellOnce, HasAll}
use Rattle.atomic_table.specs.Table.{Final, Seen}
use Rattle.parallel_shares.proofs.Counts.{inside_nothing}
use Rattle.parallel_shares.proofs.Spacing.{all_read}
use Rattle.parallel_shares.proofs.Totals.{total_two, total_alone, total_zero, total_some, total_both, total_of_none, no_numbers, one_more, same_once}

-- seats that are numbered from one number on have each number once
numbered : (k base : ℕ) (seats : List Seat)
    → ((i : ℕ) (d : Seat) → i < length seats → index_of (get_or seats i d) ≡ base + i)
    → total (λ s. times k (known s).owns) seats ≡ inside k base (base + length seats)
numbered k base [] order = sym (inside_nothing k base (base + 0) (omega arith))
numbered k base (x ∷ xs) order =
    let first : x.index ≡ base = omega (arith, order 0 x (omega arith)) in
    let own : times k (known x).owns ≡ same_number k base = ap (times k) x.owns
    ∙ omega (arith, ap (same_number k) first) in
    let rest = numbered k (suc base) xs (λ i d h. omega (arith, order (suc i) d (omega arith))) in
    omega (arith, own, rest, one_more k base (length xs))

-- a seat that claims from a share
abbrev claimer : Bool → ℕ → ℕ
claimer true share = 0
claimer false share = share

claimer_exists : (whole : Bool) (workers share : ℕ) → 0 < workers → share < cond whole 1 workers
    → (claimer whole share < workers) × (cond whole 0 (claimer whole share) ≡ share)
claimer_exists true workers share some_workers h = (some_workers, omega (arith, h))
claimer_exists false workers share some_workers h = (h, refl)

module _ (shares : Shares) (seats : List Seat) (all : AreSeatsOf shares seats)
    (s : State (Unit {0}) View) (k : IsSharingOf shares.plan s) (id : ℕ) (view : View)
    (at : get_elem? s.views id ≡ some view) (has : HasAll view seats) where
  abbrev plan : Sizes
  plan = shares.plan

  -- the one view has every number
  owns_all : (n : ℕ) → times n view.owns ≡ inside n 0 plan.workers
  owns_all n =
      has.owns n ∙ numbered n 0 seats (λ i d h. omega (arith, all.order i d h))
      ∙ ap (inside n 0) (omega (arith, all.count))

  -- so the others have none, and nothing else
  others : (j : ℕ) (y : View) → get_elem? s.views j ≡ some y → ¬ (j ≡ id) → (y.claims ≡ [])
      × (y.transit ≡ []) × (y.changes ≡ 0)
  others j y e apart =
      (k.each j y e).1 (no_numbers y.owns
      (λ n. omega (
        arith,
        owns_all n,
        k.seats n,
        total_two (λ v. times n v.owns) s.views id j view y at e apart,
      )))

  views_have : (c : ℕ) → total (in_view plan c) s.views ≡ total
      (λ x. in_view plan c (known x)) seats
  views_have c =
      let u = c / plan.unit in
      let one = total_alone (in_view plan c) s.views id view at
      (λ j y e n. let o = others j y e n in omega
      (arith, ap (in_ranges c) o.0, ap (in_ranges u) o.1)) in
      omega (
        arith,
        one,
        has.claims c,
        has.transit u,
        total_both (λ x. in_ranges c (known x).claims) (λ x. in_ranges u (known x).transit) seats,
      )

  claims_have : (c : ℕ) → total (λ v. in_ranges c v.claims) s.views ≡ total
      (λ x. in_ranges c (claims_of x)) seats
  claims_have c =
      total_alone (λ v. in_ranges c v.claims) s.views id view at
      (λ j y e n. ap (in_ranges c) (others j y e n).0) ∙ has.claims c

  pub partition : IsPartition plan s.words seats
  partition = record {
    once = λ c h. omega (arith, k.once c h, views_have c);
    no_more = λ c h. omega (arith, k.no_more c h, claims_have c);
  }

  -- where each seat has seen its word empty, a seat of each share has
  pub empty : AllDone seats → AllEmpty s.words
  empty done share h =
      let c = claimer_exists plan.whole plan.workers share shares.sound.workers_count
      (omega (arith, h, k.shares)) in
      let n = claimer plan.whole share in
      let there : n < length seats = omega (arith, all.count, c.0) in
      let seen : 0 < times n view.empties =
      omega (
        arith,
        has.empties n,
        total_some (λ x. times n (known x).empties) seats n there (λ d.
            let x = get_or seats n d in
            let list : (known x).empties ≡ n ∷ [] = x.empties
            ∙ ap (λ b. cond b (x.index ∷ []) []) (done n d there).0
            ∙ ap (λ i. i ∷ []) (all.order n d there) in
            omega (arith, ap (times n) list, same_once n)),
      )
      in
      subst (λ j. IsEmptyWord (get_or s.words j 0)) c.1 (((k.each id view at).0 n).1 seen)

  -- then nothing is left in a word or in transit
  pub each_once : AllDone seats → EachCellOnce plan seats
  each_once done = record {
    once = λ c h.
        let u = c / plan.unit in
        let words : total (in_word u) s.words ≡ 0 = total_of_none (in_word u) s.words
        (λ i l. inside_nothing u (start_of (get_or s.words i 0)) (end_of (get_or s.words i 0))
        (omega (arith, empty done i l))) in
        let transit : total (λ x. in_ranges u (known x).transit) seats ≡ 0 = total_zero
        (λ x. in_ranges u (known x).transit) seats
        (λ i d l. ap (in_ranges u) ((get_or seats i d).carries ∙ ap ranges_of (done i d l).1))
        in
        omega (
          arith,
          k.once c h,
          views_have c,
          words,
          transit,
          total_both (λ x. in_ranges c (known x).claims)
              (λ x. in_ranges u (known x).transit) seats,
        );
    no_more = λ c h. omega (arith, k.no_more c h, claims_have c);
  }

  pub opening_stands : total (λ x. (known x).changes) seats ≡ 0
      → s.words ≡ opening_words plan (shares_of plan)
  opening_stands none_of =
      k.opening (total_alone (λ v. v.changes) s.views id view at (λ j y e n. (others j y e n).2)
      ∙ has.changes ∙ none_of)

-- a table that was closed had the words that were read of it, each at the place of its share
pub last_state : (key plan : Sizes) → key ≡ plan → (id : ℕ) (view : View) (all : List ℕ)
    (slots : List (Unit {0})) (found : List ℕ)
    → Final (Seen (Spaced (IsSharingOf key)) id view) all slots → length found ≡ shares_of plan
    → ((share : ℕ) → share < shares_of plan
    → get_or found share 0 ≡ get_or all (place_of share) 0)
    → (s : State (Unit {0}) View) × IsSharingOf plan s × (get_elem? s.views id ≡ some view)
    × (found ≡ s.words)
last_state key plan is id view all slots found last count each =
    let words = last.1.0.0 in
    let s = used last.0 words in
    let k = subst (λ z. IsSharingOf z s) is last.1.0.2 in (
      s,
      k,
      last.1.1,
      all_read found words (omega (arith, count, k.shares)) (λ share h. each share
          (omega (arith, h, k.shares))
          ∙ ap (λ ws. get_or ws (place_of share) 0) (sym last.2 ∙ last.1.0.1)),
    )
