-- A look round: one share after another is loaded, and the best of them is kept.
use Rattle.parallel_shares.proofs.Common.{◌≡◌, ◌≢◌, ℕ, ◌+◌, ◌<◌, ◌≤◌, ◌⊎◌, inl, inr, length, Option, Some, None, sym, ap, ◌∙◌, arith, length-set, get_or-set_same}
use Rattle.parallel_shares.proofs.Common.{get_or-set_other, View, IsWithin, Sizes, cells_in, Pays, SomeSplitPays, loaded_at, loads_at, loads_since, looked}
use Rattle.parallel_shares.proofs.Common.{LooksRound, IsBest, IsBetter, IsNoBetter, OnlyLooks}
use Rattle.parallel_shares.proofs.Best.{each_below}
use Rattle.parallel_shares.specs.declared.shares.steal.Victim.{Victim}
use Rattle.parallel_shares.proofs.Totals.{times_push, times_push_other}

module _ (sizes : Sizes) (own n : ℕ) (view : View) where
  -- a view that loaded the same words has the same best
  best_kept : (next : View) → ((k : ℕ) → k < n → loaded_at next k ≡ loaded_at view k)
      → (best : Option Victim) → IsBest sizes own n view best → IsBest sizes own n next best
  best_kept next same None none_of = λ k h. rw (same k h) (none_of k h)
  best_kept next same (Some v) ((other, pays, (exists, over)), word) =
      let is = same v.share exists in
      ((other, rw is pays, (exists, λ k h. rw (same k h, is) (over k h))), is ∙ word)

  -- the seat's own share, and one whose word is no better, are passed over
  best_stays : (best : Option Victim)
      → (n ≢ own → IsNoBetter sizes best (loaded_at view n)) → IsBest sizes own n view best
      → IsBest sizes own (n + 1) view best
  best_stays None less none_of = each_below n none_of (λ o p. elim (less o) [
    | inl not ↦ not p
    | inr wrong ↦ absurd wrong
  ])
  best_stays (Some v) less ((other, pays, (exists, over)), word) = (
    (
      other,
      pays,
      (
        omega (arith, exists),
        each_below n over (λ o p. elim (less o) [
          | inl not ↦ absurd (not p)
          | inr l ↦ (
            omega (arith, l, ap (cells_in sizes) word),
            λ _. omega (arith, l, ap (cells_in sizes) word),
          )
        ]),
      ),
    ),
    word,
  )

  module _ (word : ℕ) (there : loaded_at view n ≡ word) (apart : n ≢ own) where
    -- no share so far has more cells than a better word
    at_most : (best : Option Victim) → IsBetter sizes best word → IsBest sizes own n view best
        → (k : ℕ) → k < n → k ≢ own → Pays sizes (loaded_at view k)
        → cells_in sizes (loaded_at view k) ≤ cells_in sizes (loaded_at view n)
    at_most None better none_of k l o p = absurd (none_of k l o p)
    at_most (Some v) better ((other, pays, (exists, over)), same) k l o p = omega (
      arith,
      (over k l o p).0,
      ap (cells_in sizes) same,
      ap (cells_in sizes) there,
      better.1,
    )

    -- a better word's share is the best
    best_is : (best : Option Victim) → IsBetter sizes best word → IsBest sizes own n view best
        → IsBest sizes own (n + 1) view (Some (record { share = n; word = word }))
    best_is best better so_far = (
      (
        apart,
        rw there better.0,
        (
          omega arith,
          each_below n
              (λ k l o p. (at_most best better so_far k l o p, λ g. absurd (omega (arith, g, l))))
              (λ o p. (omega arith, λ l. absurd (omega (arith, l)))),
        ),
      ),
      there,
    )

-- the shares below a number were loaded, but for the seat's own, and the best of them is known
pub record HasLooked (sizes : Sizes) (own below : ℕ) (before view : View)
    (victim : Option Victim) : Type 0 where
  pub only : OnlyLooks before view
  pub looks : LooksRound sizes own below before view
  pub best : IsBest sizes own below view victim

module _ (sizes : Sizes) (own n : ℕ) (before view : View) (best : Option Victim)
    (so_far : HasLooked sizes own n before view best) where
  abbrev looks : LooksRound sizes own n before view
  looks = so_far.looks

  earlier : (k : ℕ) → (k ≡ own) ⊎ (n + 1 ≤ k) → (k ≡ own) ⊎ (n ≤ k)
  earlier k where_ = elim where_ [ inl e ↦ inl e | inr l ↦ inr (omega (arith, l)) ]

  -- the seat's own share is passed over
  pub passes_own : n ≡ own → HasLooked sizes own (n + 1) before view best
  passes_own is = record {
    only = so_far.only;
    looks = record {
      once = each_below n looks.once (λ o. absurd (o is));
      since = each_below n looks.since (λ o. absurd (o is));
      within = each_below n looks.within (λ o. absurd (o is));
      splits = each_below n looks.splits (λ o. absurd (o is));
      others = λ k where_. looks.others k (earlier k where_);
    };
    best = best_stays sizes own n view best (λ o. absurd (o is)) so_far.best;
  }

  -- another share is loaded
  module _ (word : ℕ) (apart : n ≢ own) (fits : n < length view.words)
      (counts : n < length view.loads) (inner : IsWithin sizes.units word)
      (splits : Pays sizes word → SomeSplitPays sizes) where
    abbrev next : View
    next = looked view n word

    there : loaded_at next n ≡ word
    there = get_or-set_same view.words n word 0 fits

    elsewhere : (k : ℕ) → k ≢ n → loaded_at next k ≡ loaded_at view k
    elsewhere k o = get_or-set_other view.words n k word 0 o

    below : (k : ℕ) → k < n → loaded_at next k ≡ loaded_at view k
    below k l = elsewhere k (omega (arith, l))

    not_counted : (k : ℕ) → k ≢ n → loads_at next k ≡ loads_at view k
    not_counted k o = get_or-set_other view.loads n k (loads_at view n + 1) 0 o

    not_counted_since : (k : ℕ) → k ≢ n → loads_since next k ≡ loads_since view k
    not_counted_since k o = times_push_other k n view.since o

    looks_more : LooksRound sizes own (n + 1) before next
    looks_more = let old = looks.others n (inr (omega arith)) in record {
      once = each_below n (λ k l o. not_counted k (omega (arith, l)) ∙ looks.once k l o)
          (λ _. get_or-set_same view.loads n (loads_at view n + 1) 0 counts
          ∙ ap (λ m. m + 1) old.0);
      since = each_below n (λ k l o. not_counted_since k (omega (arith, l)) ∙ looks.since k l o)
          (λ _. times_push n view.since ∙ ap (λ m. m + 1) old.2);
      within = each_below n (λ k l. rw (below k l) (looks.within k l)) (λ _. rw there inner);
      splits = each_below n (λ k l. rw (below k l) (looks.splits k l)) (λ _. rw there splits);
      others = λ k where_.
          let o : k ≢ n =
          λ is. elim where_ [ inl e ↦ apart (sym is ∙ e) | inr l ↦ omega (arith, l, is) ] in
          let old = looks.others k (earlier k where_) in
          (not_counted k o ∙ old.0, elsewhere k o ∙ old.1, not_counted_since k o ∙ old.2);
    }

    only_more : OnlyLooks before next
    only_more = (
      ap (λ (v : View). record v {
        words = next.words;
        loads = next.loads;
        since = next.since;
      }) so_far.only.0,
      length-set view.words n word ∙ so_far.only.1,
      length-set view.loads n (loads_at view n + 1) ∙ so_far.only.2,
    )

    pub no_better : IsNoBetter sizes best word → HasLooked sizes own (n + 1) before next best
    no_better less = record {
      only = only_more;
      looks = looks_more;
      best = best_stays sizes own n next best (λ _. rw there less)
          (best_kept sizes own n view next below best so_far.best);
    }

    pub better : IsBetter sizes best word
        → HasLooked sizes own (n + 1) before next (Some (record { share = n; word = word }))
    better more = record {
      only = only_more;
      looks = looks_more;
      best = best_is sizes own n next word there apart best more
          (best_kept sizes own n view next below best so_far.best);
    }

-- a view with the same words and loads has looked round as well
pub looks_kept : (sizes : Sizes) (own below : ℕ) (before view after : View)
    → after.words ≡ view.words → after.loads ≡ view.loads → after.since ≡ view.since
    → LooksRound sizes own below before view → LooksRound sizes own below before after
looks_kept sizes own below before view after words loads since looks = record {
  once = rw loads looks.once;
  since = rw since looks.since;
  within = rw words looks.within;
  splits = rw words looks.splits;
  others = rw (words, loads, since) looks.others;
}
