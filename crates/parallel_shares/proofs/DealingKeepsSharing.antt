-- Seats that are dealt and gathered keep what words and seats keep together, from the opening on.
use Rattle.parallel_shares.proofs.Common.{◌≡◌, ℕ, zero, suc, ◌+◌, ◌-◌, ◌/◌, ◌<◌, ◌≤◌, ◌⊎◌, inl, inr, List, [], ◌∷◌, ◌++◌, get_or, set, refl, sym, ap, subst, ◌∙◌, arith, range_with_len, cases_lt}
use Rattle.parallel_shares.proofs.Common.{get_or_past, Range, some, some-injective, some-ne-none, get_elem?, Splits, Joins, at_snoc, set_else, View, packed, Sizes, shares_of, opening_start, IsSound}
use Rattle.parallel_shares.proofs.Common.{opening_words, Pays, inside, in_word, in_ranges, same_number, total, times, SomeSplitPays, fresh_view, undealt, in_view, Empties, Idle, IsSharingOf}
use Rattle.parallel_shares.proofs.Common.{dealt_from, dealt, gathered, spent}
use Rattle.atomic_table.specs.Table.{opening}
use Rattle.parallel_shares.proofs.Words.{start_of_packed, end_of_packed}
use Rattle.parallel_shares.proofs.Counts.{inside_within, inside_cut, inside_nothing}
use Rattle.parallel_shares.proofs.Openings.{at_end, in_order, within_units, length_opening, opening_is_state}
use Rattle.parallel_shares.proofs.UnitsHandedOver.{unit_of_cell}
use Rattle.parallel_shares.proofs.Totals.{total_append, total_set, times_dealt, times_range, in_ranges_append, both_empty}
use Rattle.parallel_shares.proofs.StepsKeepSharing.{each_view}

-- one of two numbers that are not 0 together
some_of : (a b : ℕ) → 0 < a + b → (0 < a) ⊎ (0 < b)
some_of zero b h = inr (omega arith)
some_of (suc a) b h = inl (omega arith)

-- what holds of each view, and of both that come of dealing one, holds of each view afterwards
each_dealt : (P : View → Type 0) (views : List View) (id : ℕ) (left right : View)
    → ((i : ℕ) (x : View) → get_elem? views i ≡ some x → P x) → P left → P right
    → (i : ℕ) (x : View) → get_elem? (set views id left ++ right ∷ []) i ≡ some x → P x
each_dealt P views id left right old here new i x h =
    elim (at_snoc (set views id left) right x i h) as (λ _. P x) [
      | inl among ↦ each_view P views id left old here i x among
      | inr last ↦ subst P last new
    ]

-- what holds of the one view holds of each
each_alone : (P : View → Type 0) (v : View) → P v → (i : ℕ) (x : View)
    → get_elem? (v ∷ []) i ≡ some x → P x
each_alone P v here zero x h = subst P (some-injective v x h) here
each_alone P v here (suc i) x h = absurd (some-ne-none x (sym h))

module _ (sizes : Sizes) (sound : IsSound sizes) where
  -- a view with nothing but numbers
  fresh_keeps : (words numbers : List ℕ) → Empties sizes words (fresh_view sizes numbers)
      × Idle (fresh_view sizes numbers)
  fresh_keeps words numbers =
      ((λ n. (omega arith, λ p. absurd (omega (arith, p)))), λ _. (refl, refl, refl))

  pub splits : (id number : ℕ) → Splits (IsSharingOf sizes) id (undealt sizes number)
      (dealt_from (undealt sizes number)) (dealt (undealt sizes number))
  splits id number s k e =
      let v = undealt sizes number in
      let left = dealt_from v in
      let right = dealt v in
      record {
        shares = k.shares;
        within = k.within;
        once =
            λ c h. omega (
              arith,
              k.once c h,
              total_append (in_view sizes c) (set s.views id left) (right ∷ []),
              total_set (in_view sizes c) s.views id v left e,
            );
        no_more =
            λ c h. omega (
              arith,
              k.no_more c h,
              total_append (λ x. in_ranges c x.claims) (set s.views id left) (right ∷ []),
              total_set (λ x. in_ranges c x.claims) s.views id v left e,
            );
        seats =
            λ n. omega (
              arith,
              k.seats n,
              times_dealt n v.owns,
              total_append (λ x. times n x.owns) (set s.views id left) (right ∷ []),
              total_set (λ x. times n x.owns) s.views id v left e,
            );
        each =
            each_dealt (λ x. Empties sizes s.words x × Idle x) s.views id left right k.each
            (fresh_keeps s.words left.owns) (fresh_keeps s.words right.owns);
        splits = k.splits;
        taken =
            each_dealt (λ x. (x.transit ≡ []) ⊎ SomeSplitPays sizes) s.views id left right k.taken
            (inl refl) (inl refl);
        opening = λ none_of. k.opening
            (omega (
              arith,
              none_of,
              total_append (λ x. x.changes) (set s.views id left)
                  (right ∷ []),
              total_set (λ x. x.changes) s.views id v left e,
            ));
      }

  -- two transits that are each empty are so together
  none_or : (first other : List (Range ℕ)) → (first ≡ []) ⊎ SomeSplitPays sizes → (other ≡ [])
      ⊎ SomeSplitPays sizes → (first ++ other ≡ []) ⊎ SomeSplitPays sizes
  none_or first other (inl a) (inl b) = inl (rw (a, b) refl)
  none_or first other (inl a) (inr b) = inr b
  none_or first other (inr a) b = inr a

  pub joins : (id other : ℕ) (v w : View)
      → Joins (IsSharingOf sizes) id v other w (gathered v w) spent
  joins id other v w s k at_v apart at_w =
      let both = gathered v w in
      let first = set s.views id both in
      let old_w : get_elem? s.views other ≡ some w = sym (set_else s.views id other both apart)
      ∙ at_w in
      let of_v = k.each id v at_v in
      let of_w = k.each other w old_w in
      record {
        shares = k.shares;
        within = k.within;
        once =
            λ c h. omega (
              arith,
              k.once c h,
              in_ranges_append c v.claims w.claims,
              in_ranges_append (c / sizes.unit) v.transit w.transit,
              total_set (in_view sizes c) s.views id v both at_v,
              total_set (in_view sizes c) first other w spent at_w,
            );
        no_more =
            λ c h. omega (
              arith,
              k.no_more c h,
              in_ranges_append c v.claims w.claims,
              total_set (λ x. in_ranges c x.claims) s.views id v both at_v,
              total_set (λ x. in_ranges c x.claims) first other w spent at_w,
            );
        seats =
            λ n. omega (
              arith,
              k.seats n,
              total_append (same_number n) v.owns w.owns,
              total_set (λ x. times n x.owns) s.views id v both at_v,
              total_set (λ x. times n x.owns) first other w spent at_w,
            );
        each =
            each_view (λ x. Empties sizes s.words x × Idle x) first other spent
            (each_view (λ x. Empties sizes s.words x × Idle x) s.views id both k.each (
              (λ n. (
                omega (
                  arith,
                  (of_v.0 n).0,
                  (of_w.0 n).0,
                  total_append (same_number n) v.owns w.owns,
                  total_append (same_number n) v.empties w.empties,
                ),
                λ p. elim (some_of (times n v.empties) (times n w.empties)
                    (omega (arith, p, total_append (same_number n) v.empties w.empties)))
                    [ inl a ↦ (of_v.0 n).1 a | inr b ↦ (of_w.0 n).1 b ],
              )),
              λ none_of. let n =
                  both_empty v.owns w.owns none_of in let a =
                  of_v.1 n.0 in let b = of_w.1 n.1 in
                  (rw (a.0, b.0) refl, rw (a.1, b.1) refl, omega (arith, a.2, b.2)),
            ))
            ((λ n. (omega arith, λ p. absurd (omega (arith, p)))), λ _. (refl, refl, refl));
        splits = k.splits;
        taken =
            each_view (λ x. (x.transit ≡ []) ⊎ SomeSplitPays sizes) first other spent
            (each_view (λ x. (x.transit ≡ []) ⊎ SomeSplitPays sizes) s.views id both k.taken
            (none_or v.transit w.transit (k.taken id v at_v) (k.taken other w old_w)))
            (inl refl);
        opening = λ none_of. k.opening
            (omega (
              arith,
              none_of,
              total_set (λ x. x.changes) s.views id v both at_v,
              total_set (λ x. x.changes) first other w spent at_w,
            ));
      }

  -- ---- the table at the start

  -- the first opening words hold the units before the next share, each once
  opening_counts : (u n : ℕ) → n ≤ shares_of sizes
      → total (in_word u) (opening_words sizes n) ≡ inside u 0 (opening_start sizes n)
  opening_counts u zero h = sym (inside_nothing u 0 0 (omega arith))
  opening_counts u (suc n) h =
      let a = opening_start sizes n in
      let b = opening_start sizes (suc n) in
      let fit : b ≤ 65535 = omega (arith, within_units sizes sound (suc n) h, sound.units_fit) in
      let more : in_word u (packed a b) ≡ inside u a b =
      rw (start_of_packed a b fit, end_of_packed a b fit) refl in
      omega (
        arith,
        total_append (in_word u) (opening_words sizes n) (packed a b ∷ []),
        opening_counts u n (omega arith),
        more,
        inside_cut u 0 a b (omega arith)
            (in_order sizes sound n (suc n) (omega arith)),
      )

  pub opens : IsSharingOf sizes
      (opening (opening_words sizes (shares_of sizes)) [] (undealt sizes 0))
  opens =
      let state = opening_is_state sizes sound in
      record {
        shares = length_opening sizes (shares_of sizes);
        within = state.words;
        once = λ c h. let u = c / sizes.unit in omega (
          arith,
          opening_counts u (shares_of sizes) (omega arith),
          ap (inside u 0) (at_end sizes sound),
          inside_within u 0 sizes.units (omega arith) (unit_of_cell sizes sound c h),
        );
        no_more = λ c h. refl;
        seats = λ n. let e : 0 + (sizes.workers - 0) ≡ sizes.workers = omega arith in omega
            (arith, times_range n 0 (sizes.workers - 0), ap (inside n 0) e);
        each =
            each_alone (λ x. Empties sizes (opening_words sizes (shares_of sizes)) x × Idle x)
            (undealt sizes 0)
            (fresh_keeps (opening_words sizes (shares_of sizes))
            (range_with_len 0 (sizes.workers - 0)));
        splits = λ share p. elim (cases_lt share (shares_of sizes)) [
          | inl l ↦ (share, l, p)
          | inr m ↦ absurd (let none_there : get_or
              (opening_words sizes (shares_of sizes)) share 0 ≡ 0 = get_or_past
              (opening_words sizes (shares_of sizes)) share 0
              (omega (arith, m, length_opening sizes (shares_of sizes))) in let q = subst
              (Pays sizes) none_there p in omega (arith, q.0))
        ];
        taken =
            each_alone (λ x. (x.transit ≡ []) ⊎ SomeSplitPays sizes) (undealt sizes 0) (inl refl);
        opening = λ _. refl;
      }
