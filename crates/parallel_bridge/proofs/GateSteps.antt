-- Each step of a gate keeps its rule, which speaks of what stands at each place of the views.
use Rattle.parallel_bridge.proofs.Common.{◌≡◌, ℕ, ◌+◌, ◌≤◌, ◌<◌, ◌⊎◌, min, List, [], ◌∷◌, ◌++◌, All, Contains, set, get_or, slice_index, sum_by, zero, suc, refl, sym, ap, subst, ◌∙◌, ⊎_elim}
use Rattle.parallel_bridge.proofs.Common.{inl, inr, arith, All-nil, All-append, All-push, All-weaker, Contains-append_left, Contains-append_right, Contains-push, sum_by-set, sum_by_push}
use Rattle.parallel_bridge.proofs.Common.{get_or-le-sum_by, some, some-injective, get_elem?, dite, ℕ_discrete, dec_le, at_set, set_here, set_else, at_longer, GateView, greatest, newcomer}
use Rattle.parallel_bridge.proofs.Common.{one_less, front_half, back_half, gathered, telling, looking, WasTold, FitsGate, KeepsGate, IsGateOf, ◌≢◌, length, some-ne-none}
use Rattle.atomic_table.specs.Table.{State, Me, Allows, Splits, Joins, keeps}

module _ {A : Type 0} where
  -- what stands at a place stands within the list
  pub there : (l : List A) (i : ℕ) (a : A) → get_elem? l i ≡ some a → i < length l
  there [] i a e = absurd (some-ne-none a (sym e))
  there (x ∷ xs) zero a e = omega arith
  there (x ∷ xs) (suc i) a e = let h = there xs i a e in omega arith

  -- what stands in a list that has one more, stands in the list or at its end
  pub one_more : (l : List A) (a b : A) (j : ℕ) → get_elem? (l ++ a ∷ []) j ≡ some b
      → (get_elem? l j ≡ some b) ⊎ ((j ≡ length l) × (a ≡ b))
  one_more [] a b zero e = inr (refl, some-injective a b e)
  one_more [] a b (suc j) e = absurd (some-ne-none b (sym e))
  one_more (x ∷ xs) a b zero e = inl e
  one_more (x ∷ xs) a b (suc j) e =
      ⊎_elim (λ t. inl t) (λ t. inr (ap suc t.0, t.1)) (one_more xs a b j e)

  -- a fact of each place, where one has changed
  pub each_set : (F : A → Type 0) (l : List A) (i : ℕ) (a : A) → F a
      → ((j : ℕ) (b : A) → get_elem? l j ≡ some b → F b) → (j : ℕ) (b : A)
      → get_elem? (set l i a) j ≡ some b → F b
  each_set F l i a new old j b e = ⊎_elim (λ (t : (j ≡ i) × (a ≡ b)). subst F t.1 new)
      (λ (t : (j ≢ i) × (get_elem? l j ≡ some b)). old j b t.1)
      (at_set l i j a b e)

  -- and where one has come
  pub each_more : (F : A → Type 0) (l : List A) (a : A) → F a
      → ((j : ℕ) (b : A) → get_elem? l j ≡ some b → F b) → (j : ℕ) (b : A)
      → get_elem? (l ++ a ∷ []) j ≡ some b → F b
  each_more F l a new old j b e = ⊎_elim (λ (t : get_elem? l j ≡ some b). old j b t)
      (λ (t : (j ≡ length l) × (a ≡ b)). subst F t.1 new)
      (one_more l a b j e)

-- how many seats the views stand for
abbrev pub held : List GateView → ℕ
held views = sum_by (λ v. v.seats) views

-- the same view stands at a place
same_view : (views : List GateView) (id : ℕ) (v d : GateView) → get_elem? views id ≡ some v
    → get_or views id d ≡ v
same_view [] id v d at = absurd (omega (arith, there [] id v at))
same_view (x ∷ xs) zero v d at = some-injective x v at
same_view (x ∷ xs) (suc id) v d at = same_view xs id v d at

-- the seats held after one view has changed, and after one has come
pub held_set : (views : List GateView) (id : ℕ) (v w : GateView) → get_elem? views id ≡ some v
    → held (set views id w) + v.seats ≡ held views + w.seats
held_set views id v w at =
    ap (λ (x : GateView). held (set views id w) + x.seats) (sym (same_view views id v w at))
    ∙ sum_by-set (λ v. v.seats) views id w w (there views id v at)

pub one_of : (views : List GateView) (by : ℕ) (u : GateView) → get_elem? views by ≡ some u
    → u.seats ≤ held views
one_of views by u at =
    let e : (get_or views by u).seats ≡ u.seats =
    ap (λ (x : GateView). x.seats) (same_view views by u u at) in
    omega (arith, e, get_or-le-sum_by (λ (v : GateView). v.seats) views by u (there views by u at))

pub held_more : (views : List GateView) (w : GateView)
    → held (views ++ w ∷ []) ≡ held views + w.seats
held_more views w = sum_by_push (λ (v : GateView). v.seats) views w

-- who fits a word fits any that is less
lower : (word next : ℕ) (v : GateView) → next ≤ word → FitsGate word v → FitsGate next v
lower word next v less fits = record {
  seen = omega (arith, fits.seen);
  told = All-weaker (λ start. word ≤ start) (λ start. next ≤ start) (λ start h. omega arith) v.told
      fits.told;
  idle = fits.idle;
}

-- what was told stays told where a view keeps what it told
still_told : (views : List GateView) (id : ℕ) (v w : GateView) (start : ℕ)
    → get_elem? views id ≡ some v → (Contains v.told start → Contains w.told start)
    → WasTold start views → WasTold start (set views id w)
still_told views id v w start at stays (by, u, here, has) = dite (ℕ_discrete by id)
    (λ e. let same : u ≡ v = some-injective u v (sym here ∙ ap (get_elem? views) e ∙ at) in (
      id,
      w,
      set_here views id w (there views id v at),
      stays (subst (λ (x : GateView). Contains x.told start) same has),
    ))
    (λ ne. (by, u, set_else views id by w ne ∙ here, has))

-- and where a view has come
told_longer : (views : List GateView) (w : GateView) (start : ℕ) → WasTold start views
    → WasTold start (views ++ w ∷ [])
told_longer views w start (by, u, here, has) = (by, u, at_longer views (w ∷ []) by u here, has)

-- a step of one seat at the word, by what it makes of the word and of the seat's view, which stands
-- for as many seats as before
moves : (n slots id : ℕ) (me : Me (Unit {0}) GateView) (next : ℕ → ℕ)
    (then : GateView → ℕ → GateView)
    → ((word found : ℕ) → found ≡ word → FitsGate word me.0 → (next word ≤ word)
    × ((then me.0 found).seats ≡ me.0.seats) × FitsGate (next word) (then me.0 found)
    × ((next word ≡ word) ⊎ Contains (then me.0 found).told (next word))
    × ((start : ℕ) → Contains me.0.told start → Contains (then me.0 found).told start))
    → Allows (λ (s : State (Unit {0}) GateView). IsGateOf n s.words s.views) slots id me 0 next
    (λ found after. (after.0 ≡ then me.0 found) × (after.1 ≡ me.1))
moves n slots id me next then step s h homes at small =
    let word : ℕ = h.0 in let kept : KeepsGate n word s.views = h.2 in let v : GateView = me.0 in
    let w : GateView = then v (slice_index s.words 0) in
    let (less, same, fits, from, stays) = step word (slice_index s.words 0)
    (ap (λ ws. slice_index ws 0) h.1) (kept.fits id v at) in (
      w,
      keeps,
      tt,
      (
        next word,
        ap (λ ws. set ws 0 (next (slice_index ws 0))) h.1,
        record {
          small = omega (arith, kept.small, less);
          seats = omega (arith, kept.seats, held_set s.views id v w at, same);
          source = ⊎_elim (λ (e : next word ≡ word).
              ⊎_elim (λ (none : word ≡ greatest). inl (e ∙ none))
              (λ (told : WasTold word s.views). inr (subst (λ k. WasTold k (set s.views id w))
              (sym e) (still_told s.views id v w word at (stays word) told))) kept.source)
              (λ (has : Contains w.told (next word)).
              inr (id, w, set_here s.views id w (there s.views id v at), has))
              from;
          fits = each_set (FitsGate (next word)) s.views id w fits
              (λ by u e. lower word (next word) u less (kept.fits by u e));
        },
      ),
      (refl, refl),
    )

-- a start that is told by a seat that stands for some
pub tells : (n slots id start : ℕ) (me : Me (Unit {0}) GateView) → 0 < me.0.seats
    → Allows (λ (s : State (Unit {0}) GateView). IsGateOf n s.words s.views) slots id me 0
    (λ k. min k start) (λ found after. (after.0 ≡ telling me.0 found start) × (after.1 ≡ me.1))
tells n slots id start me stands = moves n slots id me (λ k. min k start)
    (λ v found. telling v found start) (λ word found is mine. (
      omega arith,
      refl,
      record {
        seen = omega (arith, mine.seen, is);
        told = All-push (λ k. min word start ≤ k) me.0.told start (All-weaker (λ k. word ≤ k)
            (λ k. min word start ≤ k) (λ k h. omega arith) me.0.told mine.told) (omega arith);
        idle = λ none. absurd (omega arith);
      },
      dite (dec_le word start) (λ le. inl (omega arith))
          (λ more. let e : start ≡ min word start = omega arith in
          inr (subst (Contains (me.0.told ++ start ∷ [])) e (Contains-push me.0.told start))),
      λ k has. Contains-append_left me.0.told (start ∷ []) k has,
    ))

-- a look
pub looks : (n slots id : ℕ) (me : Me (Unit {0}) GateView)
    → Allows (λ (s : State (Unit {0}) GateView). IsGateOf n s.words s.views) slots id me 0
    (λ k. k) (λ found after. (after.0 ≡ looking me.0 found) × (after.1 ≡ me.1))
looks n slots id me = moves n slots id me (λ k. k) looking (λ word found is mine. (
  omega arith,
  refl,
  record { seen = omega (arith, mine.seen, is); told = mine.told; idle = mine.idle },
  inl refl,
  λ k has. has,
))

-- a seat gives some of its seats to a new one
parts : (n id : ℕ) (v left right : GateView) → left.seats + right.seats ≡ v.seats
    → left.told ≡ v.told → left.least ≡ v.least → (left.seats ≡ 0 → v.told ≡ [])
    → right.told ≡ [] → right.least ≡ greatest
    → Splits (λ (s : State (Unit {0}) GateView). IsGateOf n s.words s.views) id v left right
parts n id v left right sum told least idle silent unseen s h at =
    let word : ℕ = h.0 in let kept : KeepsGate n word s.views = h.2 in
    let mine : FitsGate word v = kept.fits id v at in
    let views : List GateView = set s.views id left in (
      word,
      h.1,
      record {
        small = kept.small;
        seats = omega (arith, kept.seats, held_set s.views id v left at, held_more views right, sum);
        source = ⊎_elim (λ (e : word ≡ greatest). inl e)
            (λ (t : WasTold word s.views). inr (told_longer views right word
            (still_told s.views id v left word at
            (λ has. subst (λ l. Contains l word) (sym told) has) t)))
            kept.source;
        fits = each_more (FitsGate word) views right
            (record {
              seen = omega (arith, kept.small, unseen);
              told = subst (All (λ start. word ≤ start)) (sym silent)
                  (All-nil (λ start. word ≤ start));
              idle = λ _. silent;
            })
            (each_set (FitsGate word) s.views id left
            (record {
              seen = omega (arith, mine.seen, least);
              told = subst (All (λ start. word ≤ start)) (sym told) mine.told;
              idle = λ none. told ∙ idle none;
            })
            (λ by u e. kept.fits by u e));
      },
    )

-- one seat is cut off
pub seats : (n id : ℕ) (v : GateView) → 0 < v.seats → v.told ≡ []
    → Splits (λ (s : State (Unit {0}) GateView). IsGateOf n s.words s.views) id v (one_less v)
    (newcomer 1)
seats n id v positive silent =
    parts n id v (one_less v) (newcomer 1) (omega arith) refl refl (λ _. silent) refl refl

-- half of the seats go to a new one
pub splits : (n id : ℕ) (v : GateView) → 2 ≤ v.seats
    → Splits (λ (s : State (Unit {0}) GateView). IsGateOf n s.words s.views) id v (front_half v)
    (back_half v)
splits n id v two =
    parts n id v (front_half v) (back_half v) (omega arith) refl refl
    (λ none. absurd (omega arith)) refl refl

-- a seat takes in another
pub joins : (n id : ℕ) (v : GateView) (other : ℕ) (w : GateView)
    → Joins (λ (s : State (Unit {0}) GateView). IsGateOf n s.words s.views) id v other w
    (gathered v w) (newcomer 0)
joins n id v other w s h at two at' =
    let word : ℕ = h.0 in let kept : KeepsGate n word s.views = h.2 in
    let both : GateView = gathered v w in let views : List GateView = set s.views id both in
    let was : get_elem? s.views other ≡ some w =
    ⊎_elim (λ x. absurd (two x.0)) (λ x. x.1) (at_set s.views id other both w at') in
    let mine : FitsGate word v = kept.fits id v at in
    let theirs : FitsGate word w = kept.fits other w was in (
      word,
      h.1,
      record {
        small = kept.small;
        seats = omega (
          arith,
          kept.seats,
          held_set s.views id v both at,
          held_set views other w (newcomer 0) at',
        );
        source = ⊎_elim (λ (e : word ≡ greatest). inl e)
            (λ (t : WasTold word s.views). inr (taken_in s.views id v w other word at was two t))
            kept.source;
        fits = each_set (FitsGate word) views other (newcomer 0)
            (record {
              seen = kept.small;
              told = All-nil (λ start. word ≤ start);
              idle = λ _. refl;
            })
            (each_set (FitsGate word) s.views id both
            (record {
              seen = omega (arith, mine.seen, theirs.seen);
              told = All-append (λ start. word ≤ start) v.told w.told mine.told theirs.told;
              idle = λ none.
                  let left : v.seats ≡ 0 = omega arith in let right : w.seats ≡ 0 = omega arith in
                  (λ i. mine.idle left i ++ theirs.idle right i);
            })
            (λ by u e. kept.fits by u e));
      },
    )
  where
    -- what the two had told, the one has told
    taken_in : (views : List GateView) (id : ℕ) (v w : GateView) (other word : ℕ)
        → get_elem? views id ≡ some v → get_elem? views other ≡ some w → ¬ (other ≡ id)
        → WasTold word views → WasTold word (set (set views id (gathered v w)) other (newcomer 0))
    taken_in views id v w other word at was two (by, u, here, has) =
        let both : GateView = gathered v w in let apart : ¬ (id ≡ other) = λ e. two (sym e) in
        let stands : get_elem? (set (set views id both) other (newcomer 0)) id ≡ some both =
        set_else (set views id both) other id (newcomer 0) apart
        ∙ set_here views id both (there views id v at) in
        dite (ℕ_discrete by id)
        (λ e. let same : u ≡ v = some-injective u v (sym here ∙ ap (get_elem? views) e ∙ at) in (
          id,
          both,
          stands,
          Contains-append_left v.told w.told word
              (subst (λ (x : GateView). Contains x.told word) same has),
        ))
        (λ ne. dite (ℕ_discrete by other)
        (λ e. let same : u ≡ w = some-injective u w (sym here ∙ ap (get_elem? views) e ∙ was) in (
          id,
          both,
          stands,
          Contains-append_right v.told w.told word
              (subst (λ (x : GateView). Contains x.told word) same has),
        ))
        (λ ne'. (
          by,
          u,
          set_else (set views id both) other by (newcomer 0) ne'
              ∙ (set_else views id by both ne ∙ here),
          has,
        )))
