-- Each step of a count latch keeps its rule.
use Rattle.parallel_pool.proofs.Common.{◌≡◌, ◌≢◌, ℕ, ◌+◌, ◌-◌, ◌%◌, ◌^◌, ◌≤◌, ◌<◌, ◌==◌, cond, List, [], ◌∷◌, ◌++◌, length, set, slice_index, sum_by, refl, sym, ap, subst, ◌∙◌, ⊎_elim, append-nil}
use Rattle.parallel_pool.proofs.Common.{arith, eq-eqb, ne_eqb, length-set, length-append, sum_by-set, sum_by-append, some, get_elem?, dite, ℕ_discrete, State, Me, Allows, Splits, Enters, keeps}
use Rattle.parallel_pool.proofs.Common.{at_set, ShareView, share_view, one_less, one_share, times_given, FitsShare, CountsAs, IsCountOf, CountsFrom, Sees}
use Rattle.std.proofs.Math.Nat.{add-mod_right, mod-eq_of_lt}
use Rattle.parallel_pool.proofs.HistoryBeginnings.{begins_on}
use Rattle.parallel_pool.proofs.ListLookups.{within, at_end, at_get}

-- how many shares the seats hold
abbrev pub held : List ShareView → ℕ
held views = sum_by (λ v. v.unspent) views

-- the shares held after one seat's view has changed
pub held_set : (views : List ShareView) (id : ℕ) (v w : ShareView) → get_elem? views id ≡ some v
    → held (set views id w) + v.unspent ≡ held views + w.unspent
held_set views id v w at =
    ap (λ (x : ShareView). held (set views id w) + x.unspent) (sym (at_get views id v w at))
    ∙ sum_by-set (λ v. v.unspent) views id w w (within views id v at)

pub held_more : (views : List ShareView) (w : ShareView)
    → held (views ++ w ∷ []) ≡ held views + w.unspent
held_more views w =
    let e = sum_by-append (λ (v : ShareView). v.unspent) views (w ∷ []) in
    omega (arith, e)

-- a share stands once more in the history that its give ends
times_own : (by : ℕ) (log : List ℕ) → times_given by (log ++ by ∷ []) ≡ times_given by log + 1
times_own by log = sum_by-append (λ other. cond (other == by) 1 0) log (by ∷ [])
    ∙ ap (λ b. times_given by log + (0 + cond b 1 0)) (eq-eqb by by refl)

-- and any other stands there as often as before
times_other : (by other : ℕ) (log : List ℕ) → other ≢ by
    → times_given other (log ++ by ∷ []) ≡ times_given other log
times_other by other log ne =
    sum_by-append (λ n. cond (n == other) 1 0) log (by ∷ [])
    ∙ (ap (λ b. times_given other log + (0 + cond b 1 0)) (ne_eqb by other (λ e. ne (sym e)))
    ∙ omega arith)

-- a word that isn't 0 goes down by one
counted_down : (n : ℕ) → 0 < n → n < 2 ^ 64 → (n + (2 ^ 64 - 1)) % 2 ^ 64 ≡ n - 1
counted_down n positive fits =
    let e : n + (2 ^ 64 - 1) ≡ (n - 1) + 2 ^ 64 = omega arith in
    let less : n - 1 < 2 ^ 64 = omega arith in
    ap (λ k. k % 2 ^ 64) e ∙ (add-mod_right (n - 1) (2 ^ 64) ∙ mod-eq_of_lt less)

-- the views of all seats, where one has changed
pub all_set : (F : ℕ → ShareView → Type 0) (views : List ShareView) (id : ℕ) (w : ShareView)
    → F id w
    → ((by : ℕ) (v : ShareView) → by ≢ id → get_elem? views by ≡ some v → F by v)
    → (by : ℕ) (v : ShareView) → get_elem? (set views id w) by ≡ some v → F by v
all_set F views id w mine others by v e = ⊎_elim
    (λ (t : (by ≡ id) × (w ≡ v)). subst (λ (x : ℕ × ShareView). F x.0 x.1)
    (λ i. (sym t.0 i, t.1 i)) mine)
    (λ (t : (by ≢ id) × (get_elem? views by ≡ some v)). others by v t.0 t.1)
    (at_set views id by w v e)

-- the views of all seats, where one has come
pub all_more : (F : ℕ → ShareView → Type 0) (views : List ShareView) (w : ShareView)
    → F (length views) w
    → ((by : ℕ) (v : ShareView) → get_elem? views by ≡ some v → F by v) → (by : ℕ) (v : ShareView)
    → get_elem? (views ++ w ∷ []) by ≡ some v → F by v
all_more F views w new old by v e = ⊎_elim
    (λ (t : get_elem? views by ≡ some v). old by v t)
    (λ (t : (by ≡ length views) × (w ≡ v)). subst (λ (x : ℕ × ShareView). F x.0 x.1)
    (λ i. (sym t.0 i, t.1 i)) new)
    (at_end views w v by e)

-- where no share stands twice, and one doesn't stand at all, none stands twice when that one has
-- come
given_once : (id : ℕ) (log : List ℕ) → times_given id log ≡ 0 → ((by : ℕ) → times_given by log ≤ 1)
    → (by : ℕ) → times_given by (log ++ id ∷ []) ≤ 1
given_once id log fresh once by = dite (ℕ_discrete by id)
    (λ e. subst (λ k. times_given k (log ++ id ∷ []) ≤ 1) (sym e)
    (omega (arith, times_own id log, fresh)))
    (λ ne. omega (arith, times_other id by log ne, once by))

-- a give by the seat `id`, of a share that is unspent, keeps the rule
pub gives : (n slots id : ℕ) (me : Me (Unit {0}) ShareView) → me.0.unspent ≡ 1
    → Allows (λ (s : State (Unit {0}) ShareView). IsCountOf n s.words s.views) slots id me 0
    (λ k. (k + (2 ^ 64 - 1)) % 2 ^ 64)
    (λ found after. CountsFrom found me.0 after.0 × (after.1 ≡ me.1))
gives n slots id me whole s h homes at small =
    let log : List ℕ = h.0 in
    let kept : CountsAs n log s.words s.views = h.1 in
    let mine : FitsShare n log id me.0 = kept.fits id me.0 at in
    let w : ShareView = share_view 0 me.0.of (log ++ id ∷ []) in
    let left' : 0 < me.0.unspent = omega (arith, whole) in
    let fresh : times_given id log ≡ 0 = mine.fresh left' in
    let less : held (set s.views id w) + me.0.unspent ≡ held s.views + 0 =
    held_set s.views id me.0 w at in
    let found : slice_index s.words 0 ≡ held s.views = ap (λ ws. slice_index ws 0) kept.word in
    let positive : 0 < held s.views = omega (arith, less, whole) in
    let fits : held s.views < 2 ^ 64 = subst (λ k. k < 2 ^ 64) found small in
    let of : me.0.of ≡ n = mine.of left' in
    let once : (by : ℕ) → times_given by (log ++ id ∷ []) ≤ 1 =
    given_once id log fresh kept.once in (
      w,
      keeps,
      tt,
      (
        log ++ id ∷ [],
        record {
          word = ap (λ ws. set ws 0 ((slice_index ws 0 + (2 ^ 64 - 1)) % 2 ^ 64)) kept.word
              ∙ ap (λ k. k ∷ []) (counted_down (held s.views) positive fits
              ∙ omega (arith, less, whole));
          left = omega (arith, less, whole, kept.left, length-append log (id ∷ []));
          fits =
              all_set (FitsShare n (log ++ id ∷ [])) s.views id w
              (record {
                seen = ([], sym (append-nil (log ++ id ∷ [])));
                heard = (log ++ id ∷ [], refl);
                of = λ _. of;
                fresh = λ none. absurd (omega arith);
              })
              (λ by v ne there. let old = kept.fits by v there in
              record {
                seen = begins_on log v.seen (id ∷ []) old.seen;
                heard = begins_on log v.heard (id ∷ []) old.heard;
                of = old.of;
                fresh = λ may. times_other id by log ne ∙ old.fresh may;
              });
          beyond =
              λ by far. let here = within s.views id me.0 at in let same = length-set s.views id w
              in times_other id by log (λ e. absurd (omega arith)) ∙ kept.beyond by (omega arith);
          once = once;
        },
      ),
      (
        (
          log,
          id,
          record {
            begins = mine.seen;
            ends = refl;
            first = fresh;
            once = once;
            spends = sym whole;
          },
          omega (arith, found, kept.left, of),
          refl,
          omega (arith, found, positive),
        ),
        refl,
      ),
    )

-- a share cut off the first seat keeps the rule
pub shares : (n id : ℕ) (v : ShareView) → 0 < v.unspent
    → Splits (λ (s : State (Unit {0}) ShareView). IsCountOf n s.words s.views) id v (one_less v)
    (one_share v)
shares n id v left s h at =
    let log : List ℕ = h.0 in
    let kept : CountsAs n log s.words s.views = h.1 in
    let mine : FitsShare n log id v = kept.fits id v at in
    let views : List ShareView = set s.views id (one_less v) in
    let less : held views + v.unspent ≡ held s.views + (v.unspent - 1) =
    held_set s.views id v (one_less v) at in
    let same : held (views ++ one_share v ∷ []) ≡ held s.views =
    omega (arith, held_more views (one_share v), less) in
    let long : length views ≡ length s.views = length-set s.views id (one_less v) in (
      log,
      record {
        word = kept.word ∙ ap (λ k. k ∷ []) (sym same);
        left = omega (arith, same, kept.left);
        fits =
            all_more (FitsShare n log) views (one_share v)
            (record {
              seen = (log, refl);
              heard = (log, refl);
              of = λ _. mine.of left;
              fresh = λ _. kept.beyond (length views) (omega arith);
            })
            (all_set (FitsShare n log) s.views id (one_less v)
            (record {
              seen = mine.seen;
              heard = (log, refl);
              of = λ _. mine.of left;
              fresh = λ may. mine.fresh left;
            })
            (λ by u ne there. kept.fits by u there));
        beyond = λ by far. kept.beyond by (omega (arith, length-append views (one_share v ∷ [])));
        once = kept.once;
      },
    )

-- a new seat, which has no share and has seen the whole history, keeps the rule
pub looks : (n slots : ℕ) (about : ShareView) → about.of ≡ n
    → Enters (λ (s : State (Unit {0}) ShareView). IsCountOf n s.words s.views) slots 0
    (λ found w. Sees found about w)
looks n slots about of s h homes small =
    let log : List ℕ = h.0 in
    let kept : CountsAs n log s.words s.views = h.1 in
    let w : ShareView = share_view 0 n log in
    let same : held (s.views ++ w ∷ []) ≡ held s.views = omega (arith, held_more s.views w) in
    let found : slice_index s.words 0 ≡ held s.views = ap (λ ws. slice_index ws 0) kept.word in (
      w,
      (
        log,
        record {
          word = kept.word ∙ ap (λ k. k ∷ []) (sym same);
          left = omega (arith, same, kept.left);
          fits =
              all_more (FitsShare n log) s.views w
              (record {
                seen = ([], sym (append-nil log));
                heard = (log, refl);
                of = λ _. refl;
                fresh = λ none. absurd (omega arith);
              })
              kept.fits;
          beyond = λ by far. kept.beyond by (omega (arith, length-append s.views (w ∷ [])));
          once = kept.once;
        },
      ),
      (omega (arith, found, kept.left, of), sym of, refl, kept.once),
    )
