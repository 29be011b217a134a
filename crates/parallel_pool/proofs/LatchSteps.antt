-- Each step of a core latch keeps its rule, and what a step found is the phase of its history.
use Rattle.parallel_pool.proofs.Common.{◌≡◌, ◌≢◌, ℕ, ◌<◌, ◌==◌, Bool, true, false, cond, List, [], ◌∷◌, ◌++◌, length, set, slice_index, refl, sym, ap, subst, ◌∙◌, ⊎_elim, append-nil, arith, eq-eqb}
use Rattle.parallel_pool.proofs.Common.{rules, ne_eqb, IsTrue, ◌↔◌, length-set, length-append, some, some-ne-none, get_elem?, either, State, Me, Allows, Enters, Splits, keeps, at_set, set_again}
use Rattle.parallel_pool.proofs.Common.{GetSleepy, FallAsleep, WakeUp, Set, Probe, Call, View, Phase, unset, sleepy, sleeping, latched, word_of, moved, phase_from, phase_after, is_unset, is_sleepy}
use Rattle.parallel_pool.proofs.Common.{is_sleeping, is_latched, Begins, call, view, newcomer, acts_of, FitsLatch, IsHistoryOf, Called, HasSeenSet}
use Rattle.parallel_pool.specs.declared.latch.history.Act.{Act}
use Rattle.parallel_pool.proofs.ListLookups.{within, at_end}
use Rattle.parallel_pool.proofs.HistoryBeginnings.{begins_on}

-- a history that goes on leads on
pub phase_from-append : (phase : Phase) (xs ys : List Call)
    → phase_from phase (xs ++ ys) ≡ phase_from (phase_from phase xs) ys
phase_from-append phase [] ys = refl
phase_from-append phase (x ∷ xs) ys = phase_from-append (moved x.act phase) xs ys

-- no act moves a set latch
set_moves : (act : Act) → moved act latched ≡ latched
set_moves GetSleepy = refl
set_moves FallAsleep = refl
set_moves WakeUp = refl
set_moves Set = refl
set_moves Probe = refl

-- a set latch stays set
pub set_stays : (calls : List Call) → phase_from latched calls ≡ latched
set_stays [] = refl
set_stays (x ∷ xs) = ap (λ phase. phase_from phase xs) (set_moves x.act) ∙ set_stays xs

pub acts_of-append : (by : ℕ) (xs ys : List Call)
    → acts_of by (xs ++ ys) ≡ acts_of by xs ++ acts_of by ys
acts_of-append by [] ys = refl
acts_of-append by (x ∷ xs) ys =
    elim (x.by == by) as (λ b. cond b (x.act ∷ acts_of by (xs ++ ys))
    (acts_of by (xs ++ ys)) ≡ cond b (x.act ∷ acts_of by xs) (acts_of by xs) ++ acts_of by ys) [
      | true ↦ ap (λ l. x.act ∷ l) (acts_of-append by xs ys)
      | false ↦ acts_of-append by xs ys
    ]

-- a call is one of its seat
acts_of-own : (by : ℕ) (act : Act) (xs : List Call)
    → acts_of by (xs ++ call by act ∷ []) ≡ acts_of by xs ++ act ∷ []
acts_of-own by act xs = acts_of-append by xs (call by act ∷ [])
    ∙ ap (λ b. acts_of by xs ++ cond b (act ∷ []) []) (eq-eqb by by refl)

-- and of no other
acts_of-other : (by other : ℕ) (act : Act) (xs : List Call) → other ≢ by
    → acts_of other (xs ++ call by act ∷ []) ≡ acts_of other xs
acts_of-other by other act xs ne = acts_of-append other xs (call by act ∷ [])
    ∙ (ap (λ b. acts_of other xs ++ cond b (act ∷ []) []) (ne_eqb by other (λ e. ne (sym e)))
    ∙ append-nil (acts_of other xs))

-- a call by the seat `id` keeps the rule, and finds the word of its history's phase
pub steps : (act : Act) (f : ℕ → ℕ) → ((p : Phase) → f (word_of p) ≡ word_of (moved act p))
    → (slots id : ℕ) (me : Me (Unit {0}) View)
    → Allows (λ (s : State (Unit {0}) View). IsHistoryOf s.words s.views) slots id me 0 f
    (λ found after. Called act (λ phase. found ≡ word_of phase) me.0 after.0 × (after.1 ≡ me.1))
steps act f moves slots id me s h homes at small =
    let log : List Call = h.0 in
    let fits : FitsLatch log id me.0 = h.2 id me.0 at in
    let after : List Call = log ++ call id act ∷ [] in
    let own : acts_of id after ≡ me.0.own ++ act ∷ [] = acts_of-own id act log
    ∙ ap (λ l. l ++ act ∷ []) fits.2 in
    let w : View = view after (me.0.own ++ act ∷ []) in (
      w,
      keeps,
      tt,
      (
        after,
        ap (λ ws. set ws 0 (f (slice_index ws 0))) h.1
            ∙ ap (λ n. n ∷ []) (moves (phase_after log)
            ∙ ap word_of (sym (phase_from-append unset log (call id act ∷ [])))),
        (λ by v e. ⊎_elim
            (λ (t : (by ≡ id) × (w ≡ v)). subst (λ (x : ℕ × View). FitsLatch after x.0 x.1)
            (λ i. (sym t.0 i, t.1 i)) (([], sym (append-nil after)), (after, refl), own))
            (λ (t : (by ≢ id) × (get_elem? s.views by ≡ some v)).
            let old : FitsLatch log by v = h.2 by v t.1 in (
              begins_on log v.seen (call id act ∷ []) old.0,
              begins_on log v.heard (call id act ∷ []) old.1,
              acts_of-other id by act log t.0
                  ∙ old.2,
            ))
            (at_set s.views id by w v e)),
        (λ by far.
            let here : id < length s.views = within s.views id me.0 at in
            let same : length (set s.views id w) ≡ length s.views = length-set s.views id w in
            acts_of-other id by act log (λ e. absurd (omega arith)) ∙ h.3 by (omega arith)),
      ),
      (
        (
          log,
          id,
          record { begins = fits.0; ends = refl; own = refl; once = own },
          ap (λ ws. slice_index ws 0) h.1,
        ),
        refl,
      ),
    )

-- a seat that has made no call and seen no more than another is added beside it
pub seats : (id : ℕ) (v new : View) → new.own ≡ [] → new.heard ≡ []
    → ((log : List Call) → Begins log v.seen → Begins log new.seen)
    → Splits (λ (s : State (Unit {0}) View). IsHistoryOf s.words s.views) id v v new
seats id v new own heard less s h at =
    let views : List View = set s.views id v in
    let same : views ≡ s.views = set_again s.views id v at in (
      h.0,
      h.1,
      (λ by u e. ⊎_elim
          (λ (t : get_elem? views by ≡ some u). h.2 by u
          (subst (λ l. get_elem? l by ≡ some u) same t))
          (λ (t : (by ≡ length views) × (new ≡ u)).
          subst (λ (x : View). FitsLatch h.0 by x) t.1 (
            less h.0 (h.2 id v at).0,
            subst (λ l. Begins h.0 l) (sym heard) (h.0, refl),
            h.3 by (let n : length views ≡ length s.views = ap length same in omega (arith, t.0))
                ∙ sym own,
          ))
          (at_end views new u by e)),
      (λ by far. h.3 by (let n : length views ≡ length s.views = ap length same in omega
          (arith, length-append views (new ∷ [])))),
    )

-- nor does a new seat that comes at a look at the word
pub enters : (slots : ℕ) → Enters (λ (s : State (Unit {0}) View). IsHistoryOf s.words s.views) slots
    0 (λ found w. w ≡ newcomer)
enters slots s h homes small = (
  newcomer,
  (
    h.0,
    h.1,
    (λ by u e. ⊎_elim
        (λ (t : get_elem? s.views by ≡ some u). h.2 by u t)
        (λ (t : (by ≡ length s.views) × (newcomer ≡ u)). subst
        (λ (x : View). FitsLatch h.0 by x) t.1
        ((h.0, refl), (h.0, refl), h.3 by (omega (arith, t.0))))
        (at_end s.views newcomer u by e)),
    (λ by far. h.3 by (omega (arith, far, length-append s.views (newcomer ∷ [])))),
  ),
  refl,
)

-- at the beginning no call was made
pub latch_opens : IsHistoryOf (0 ∷ []) (newcomer ∷ [])
latch_opens = (
  [],
  refl,
  (λ by v e. ⊎_elim
      (λ (t : get_elem? (let none : List View = [] in none) by ≡ some v). absurd
      (some-ne-none v (sym t)))
      (λ (t : (by ≡ 0) × (newcomer ≡ v)). subst (λ (x : View). FitsLatch [] by x) t.1
      (([], refl), ([], refl), refl))
      (at_end [] newcomer v by e)),
  (λ by far. refl),
)

-- what a call tells that found a word
abbrev pub Finds : Act → ℕ → View → View → Type 0
Finds act found old new = Called act (λ phase. found ≡ word_of phase) old new

-- a call that tests the word tells the phase that it found
pub answers : (act : Act) (k : ℕ) (test : Phase → Bool)
    → ((phase : Phase) → (word_of phase == k) ≡ test phase)
    → (found : ℕ) (old new : View) → Finds act found old new
    → Called act (λ phase. (found == k) ≡ test phase) old new
answers act k test tells found old new h =
    (h.0, h.1, h.2, ap (λ n. n == k) h.3 ∙ tells (phase_after h.0))

-- the phase that a seat sees after a call is the one to which the call moved what it found
seen_after : (act : Act) (found : ℕ) (old new : View) (h : Finds act found old new)
    → phase_after new.seen ≡ moved act (phase_after h.0)
seen_after act found old new h = ap phase_after h.2.ends
    ∙ phase_from-append unset h.0 (call h.1 act ∷ [])

-- a call by a seat that has seen the latch set finds it set
finds_set : (act : Act) (found : ℕ) (old new : View) (h : Finds act found old new) → HasSeenSet old
    → phase_after h.0 ≡ latched
finds_set act found old new h was =
    ap phase_after h.2.begins.1
    ∙ (phase_from-append unset old.seen h.2.begins.0
    ∙ (ap (λ phase. phase_from phase h.2.begins.0) was ∙ set_stays h.2.begins.0))

-- and it sees it set afterwards
pub stays_set : (act : Act) (found : ℕ) (old new : View) → Finds act found old new → HasSeenSet old
    → HasSeenSet new
stays_set act found old new h was = seen_after act found old new h
    ∙ (ap (moved act) (finds_set act found old new h was) ∙ set_moves act)

-- the word that it finds is that of a set latch
pub found_set : (act : Act) (found : ℕ) (old new : View) → Finds act found old new → HasSeenSet old
    → found ≡ 3
found_set act found old new h was = h.3 ∙ ap word_of (finds_set act found old new h was)

-- a seat sees the latch set that it has set
pub sees_set : (found : ℕ) (old new : View) → Finds Set found old new → HasSeenSet new
sees_set found old new h = seen_after Set found old new h

-- no other phase has the word of a set latch
word_latched : (phase : Phase) → word_of phase ≡ 3 → phase ≡ latched
word_latched unset e = absurd (omega arith)
word_latched sleepy e = absurd (omega arith)
word_latched sleeping e = absurd (omega arith)
word_latched latched e = refl

-- a probe sees the latch set exactly where it finds the word of a set latch
pub probe_sees : (found : ℕ) (old new : View) → Finds Probe found old new
    → IsTrue (found == 3) ↔ HasSeenSet new
probe_sees found old new h =
    let same : phase_after new.seen ≡ phase_after h.0 = seen_after Probe found old new h in (
      (λ yes. let e : found ≡ 3 = search (rules, yes) in same
          ∙ word_latched (phase_after h.0) (sym h.3 ∙ e)),
      (λ sees. ap (λ n. n == 3) (h.3 ∙ ap word_of (sym same ∙ sees))),
    )

-- the word of each phase, told by the tests of the calls
pub getting : (phase : Phase) → either (word_of phase == 0) 1 (word_of phase) ≡ word_of
    (moved GetSleepy phase)
getting unset = refl
getting sleepy = refl
getting sleeping = refl
getting latched = refl

pub falling : (phase : Phase) → either (word_of phase == 1) 2 (word_of phase) ≡ word_of
    (moved FallAsleep phase)
falling unset = refl
falling sleepy = refl
falling sleeping = refl
falling latched = refl

pub waking : (phase : Phase) → either (word_of phase == 2) 0 (word_of phase) ≡ word_of
    (moved WakeUp phase)
waking unset = refl
waking sleepy = refl
waking sleeping = refl
waking latched = refl

pub unset_word : (phase : Phase) → (word_of phase == 0) ≡ is_unset phase
unset_word unset = refl
unset_word sleepy = refl
unset_word sleeping = refl
unset_word latched = refl

pub sleepy_word : (phase : Phase) → (word_of phase == 1) ≡ is_sleepy phase
sleepy_word unset = refl
sleepy_word sleepy = refl
sleepy_word sleeping = refl
sleepy_word latched = refl

pub sleeping_word : (phase : Phase) → (word_of phase == 2) ≡ is_sleeping phase
sleeping_word unset = refl
sleeping_word sleepy = refl
sleeping_word sleeping = refl
sleeping_word latched = refl

pub latched_word : (phase : Phase) → (word_of phase == 3) ≡ is_latched phase
latched_word unset = refl
latched_word sleepy = refl
latched_word sleeping = refl
latched_word latched = refl
