-- A share of a count latch learns which gives another has seen.
use Rattle.parallel_pool.proofs.Common.{◌≡◌, ℕ, ◌+◌, List, [], ◌∷◌, ◌++◌, length, set, slice_index, refl, sym, ap, ◌∙◌, ⊎_elim, arith, length-set, length-append, some, get_elem?, State, Me}
use Rattle.parallel_pool.proofs.Common.{Allows, Splits, Joins, keeps, at_set, ShareView, Longer, share_view, telling_gives, hearing_gives, stranger, FitsShare, CountsAs, IsCountOf, SameShare}
use Rattle.parallel_pool.proofs.HistoryBeginnings.{longest}
use Rattle.parallel_pool.proofs.CountSteps.{held, held_set, held_more, all_set, all_more}

-- a new seat, which has no share and has seen the gives that another has seen, keeps the rule
pub tells : (n id : ℕ) (v : ShareView)
    → Splits (λ (s : State (Unit {0}) ShareView). IsCountOf n s.words s.views) id v v
    (telling_gives v)
tells n id v s h at =
    let log : List ℕ = h.0 in
    let kept : CountsAs n log s.words s.views = h.1 in
    let mine : FitsShare n log id v = kept.fits id v at in
    let views : List ShareView = set s.views id v in
    let less : held views + v.unspent ≡ held s.views + v.unspent = held_set s.views id v v at in
    let same : held (views ++ telling_gives v ∷ []) ≡ held s.views =
    omega (arith, held_more views (telling_gives v), less) in
    let long : length views ≡ length s.views = length-set s.views id v in (
      log,
      record {
        word = kept.word ∙ ap (λ k. k ∷ []) (sym same);
        left = omega (arith, same, kept.left);
        fits =
            all_more (FitsShare n log) views (telling_gives v)
            (record {
              seen = mine.seen;
              heard = (log, refl);
              of = λ none. absurd (omega arith);
              fresh = λ none. absurd (omega arith);
            })
            (all_set (FitsShare n log) s.views id v mine (λ by u ne there. kept.fits by u there));
        beyond = λ by far. kept.beyond by
            (omega (arith, length-append views (telling_gives v ∷ [])));
        once = kept.once;
      },
    )

-- a share hears a seat that has no share, which is dropped
pub count_hears : (n id : ℕ) (v : ShareView) (other : ℕ) (w : ShareView) → w.unspent ≡ 0
    → Joins (λ (s : State (Unit {0}) ShareView). IsCountOf n s.words s.views) id v other w
    (hearing_gives v w) stranger
count_hears n id v other w none s h at two at' =
    let log : List ℕ = h.0 in
    let kept : CountsAs n log s.words s.views = h.1 in
    let both : ShareView = hearing_gives v w in
    let views : List ShareView = set s.views id both in
    let was : get_elem? s.views other ≡ some w =
    ⊎_elim (λ x. absurd (two x.0)) (λ x. x.1) (at_set s.views id other both w at') in
    let mine : FitsShare n log id v = kept.fits id v at in
    let theirs : FitsShare n log other w = kept.fits other w was in
    let here : held views + v.unspent ≡ held s.views + v.unspent = held_set s.views id v both at in
    let there : held (set views other stranger) + w.unspent ≡ held views + 0 =
    held_set views other w stranger at' in
    let same : held (set views other stranger) ≡ held s.views = omega (arith, here, there, none) in
    let long : length views ≡ length s.views = length-set s.views id both in
    let long' : length (set views other stranger) ≡ length views =
    length-set views other stranger in (
      log,
      record {
        word = kept.word ∙ ap (λ k. k ∷ []) (sym same);
        left = omega (arith, same, kept.left);
        fits =
            all_set (FitsShare n log) views other stranger
            (record {
              seen = (log, refl);
              heard = (log, refl);
              of = λ may. absurd (omega arith);
              fresh = λ may. absurd (omega arith);
            })
            (λ by u ne there. all_set (FitsShare n log) s.views id both
            (record { seen = mine.seen; heard = theirs.seen; of = mine.of; fresh = mine.fresh })
            (λ by' u' ne' there'. kept.fits by' u' there') by u there);
        beyond = λ by far. kept.beyond by (omega (arith, far, long, long'));
        once = kept.once;
      },
    )

-- a share that hears another has then seen the longer of what both had seen
pub count_learns : (n slots id : ℕ) (me : Me (Unit {0}) ShareView)
    → Allows (λ (s : State (Unit {0}) ShareView). IsCountOf n s.words s.views) slots id me 0
    (λ k. k) (λ found after. Longer me.0.seen me.0.heard after.0.seen × SameShare me.0 after.0
    × (after.1 ≡ me.1))
count_learns n slots id me s h homes at small =
    let log : List ℕ = h.0 in
    let kept : CountsAs n log s.words s.views = h.1 in
    let mine : FitsShare n log id me.0 = kept.fits id me.0 at in
    let long = longest log me.0.seen me.0.heard mine.seen mine.heard in
    let w : ShareView = share_view me.0.unspent me.0.of long.0 in
    let here : held (set s.views id w) + me.0.unspent ≡ held s.views + me.0.unspent =
    held_set s.views id me.0 w at in
    let same : held (set s.views id w) ≡ held s.views = omega (arith, here) in (
      w,
      keeps,
      tt,
      (
        log,
        record {
          word = ap (λ ws. set ws 0 (slice_index ws 0)) kept.word ∙ ap (λ k. k ∷ []) (sym same);
          left = omega (arith, same, kept.left);
          fits =
              all_set (FitsShare n log) s.views id w
              (record { seen = long.1; heard = (log, refl); of = mine.of; fresh = mine.fresh })
              (λ by u ne there. kept.fits by u there);
          beyond = λ by far. let long' = length-set s.views id w in kept.beyond by
              (omega (arith, far, long'));
          once = kept.once;
        },
      ),
      ((long.2, long.3, long.4), (refl, refl), refl),
    )
