-- A seat of a core latch learns what another has seen.
use Rattle.parallel_pool.proofs.Common.{◌≡◌, ◌≢◌, ℕ, List, [], length, set, slice_index, refl, sym, ap, subst, ◌∙◌, ⊎_elim, arith, length-set, some, get_elem?, State, Me, Allows, Joins, keeps, at_set}
use Rattle.parallel_pool.proofs.Common.{Call, View, Begins, Longer, unset, latched, phase_from, phase_after, view, newcomer, hearing, FitsLatch, IsHistoryOf}
use Rattle.parallel_pool.proofs.HistoryBeginnings.{longest}
use Rattle.parallel_pool.proofs.LatchSteps.{phase_from-append, set_stays}

-- the views of all seats, where one has changed
all_set : (log : List Call) (views : List View) (id : ℕ) (w : View) → FitsLatch log id w
    → ((by : ℕ) (v : View) → get_elem? views by ≡ some v → FitsLatch log by v) → (by : ℕ) (v : View)
    → get_elem? (set views id w) by ≡ some v → FitsLatch log by v
all_set log views id w mine others by v e = ⊎_elim
    (λ (t : (by ≡ id) × (w ≡ v)). subst (λ (x : ℕ × View). FitsLatch log x.0 x.1)
    (λ i. (sym t.0 i, t.1 i)) mine)
    (λ (t : (by ≢ id) × (get_elem? views by ≡ some v)). others by v t.1)
    (at_set views id by w v e)

-- a seat hears a new one, which has made no call, and is dropped
pub latch_hears : (id : ℕ) (v : View) (other : ℕ) (w : View) → w.own ≡ []
    → Joins (λ (s : State (Unit {0}) View). IsHistoryOf s.words s.views) id v other w
    (hearing v w) newcomer
latch_hears id v other w new s h at two at' =
    let log : List Call = h.0 in
    let both : View = hearing v w in
    let views : List View = set s.views id both in
    let was : get_elem? s.views other ≡ some w =
    ⊎_elim (λ x. absurd (two x.0)) (λ x. x.1) (at_set s.views id other both w at') in
    let mine : FitsLatch log id v = h.2 id v at in
    let theirs : FitsLatch log other w = h.2 other w was in (
      log,
      h.1,
      all_set log views other newcomer ((log, refl), (log, refl), theirs.2 ∙ new)
          (all_set log s.views id both (mine.0, theirs.0, mine.2) h.2),
      (λ by far.
          let one : length views ≡ length s.views = length-set s.views id both in
          let all : length (set views other newcomer) ≡ length views =
          length-set views other newcomer in
          h.3 by (omega (arith, far, one, all))),
    )

-- a seat that hears another has then seen the longer of what both had seen
pub latch_learns : (slots id : ℕ) (me : Me (Unit {0}) View)
    → Allows (λ (s : State (Unit {0}) View). IsHistoryOf s.words s.views) slots id me 0 (λ n. n)
    (λ found after. Longer me.0.seen me.0.heard after.0.seen × (after.0.own ≡ me.0.own)
    × (after.1 ≡ me.1))
latch_learns slots id me s h homes at small =
    let log : List Call = h.0 in
    let fits : FitsLatch log id me.0 = h.2 id me.0 at in
    let long = longest log me.0.seen me.0.heard fits.0 fits.1 in
    let w : View = view long.0 me.0.own in (
      w,
      keeps,
      tt,
      (
        log,
        ap (λ ws. set ws 0 (slice_index ws 0)) h.1,
        all_set log s.views id w (long.1, (log, refl), fits.2) h.2,
        (λ by far. let same : length (set s.views id w) ≡ length s.views = length-set s.views id w
            in h.3 by (omega (arith, far, same))),
      ),
      ((long.2, long.3, long.4), refl, refl),
    )

-- who has seen a history that begins with one in which the latch was set, has seen it set
pub learns_set : (old new : List Call) → Begins new old → phase_after old ≡ latched
    → phase_after new ≡ latched
learns_set old new begins was = ap phase_after begins.1
    ∙ (phase_from-append unset old begins.0
    ∙ (ap (λ phase. phase_from phase begins.0) was ∙ set_stays begins.0))
