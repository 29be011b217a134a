-- Each step of a seat keeps what words and seats keep together, whatever the table is by then.
use Rattle.parallel_shares.proofs.Common.{◌≡◌, ℕ, false, cond, ◌+◌, ◌-◌, ◌/◌, ◌<◌, ◌≤◌, ◌==◌, ◌⊎◌, inl, inr, List, [], ◌∷◌, ◌++◌, length, get_or, set, refl, sym, ap, subst, ◌∙◌, arith, cases_eq}
use Rattle.parallel_shares.proofs.Common.{eq-eqb, ne_eqb, length-set, get_or-set_other, mul-le, Range, some, none, get_elem?, State, Me, step, Act, keeps, Valid, stepped, carried_after, Allows}
use Rattle.parallel_shares.proofs.Common.{at_set, exchanged, View, start_of, end_of, packed, IsEmptyWord, IsWithin, Sizes, shares_of, share_of, IsSound, claim_stop, claim_cells, middle_of, Pays}
use Rattle.parallel_shares.proofs.Common.{inside, in_word, in_range, in_ranges, total, times, SomeSplitPays, in_view, Empties, Idle, IsSharingOf, looked_own, took_front, missed, looked, took_back}
use Rattle.parallel_shares.proofs.Common.{back_half, put_down, LooksOwn, TakesFront, LooksAt, TakesBack, PutsDown, Exchanges, place_of, share_at, Spaced}
use prog.Atomic.{either}
use Rattle.parallel_shares.proofs.Words.{start_of_packed, end_of_packed, within_packed, cut_front, cut_back, claim_front, two_halves}
use Rattle.parallel_shares.proofs.Counts.{inside_below, inside_nothing, inside_cells, inside_no_cells}
use Rattle.parallel_shares.proofs.ListWrites.{each_set, in_ranges_push}
use Rattle.parallel_shares.proofs.Totals.{total_set, total_two, total_put, set_get, is_same, same_once}
use Rattle.parallel_shares.proofs.Spacing.{share_at_place, allows_spaced}

-- the table as the rule sees it
abbrev Table : Type 0
Table = State (Unit {0}) View

-- the table with another word at a share, and another view at a seat
abbrev written : Table → ℕ → ℕ → ℕ → View → Table
written s share word id view =
    record { words = set s.words share word; homes = s.homes; views = set s.views id view }

-- an empty list is no list with an element
not_empty : {A : Type 0} (xs : List A) (x : A) → xs ≡ x ∷ [] → ¬ (xs ≡ [])
not_empty xs x e n = absurd (omega (arith, ap length e, ap length n))

-- where the split of a word's front that is left pays, the word's does
pays_front : (sizes : Sizes) (word stop : ℕ) → start_of word ≤ stop → stop ≤ end_of word
    → end_of word ≤ 65535 → Pays sizes (packed stop (end_of word)) → Pays sizes word
pays_front sizes word stop a b fit p =
    let q =
    rw (start_of_packed stop (end_of word) fit, end_of_packed stop (end_of word) fit) at p in
    let later : middle_of word ≤ stop + (end_of word - stop) / 2 = omega (arith, a, b) in (
      omega (arith, q.0, a),
      omega (
        arith,
        q.1,
        mul-le (middle_of word) sizes.unit (stop + (end_of word - stop) / 2) sizes.unit later
            (omega arith),
      ),
    )

-- what holds of each view, and of one that is written, holds of each view afterwards
pub each_view : (P : View → Type 0) (views : List View) (id : ℕ) (w : View)
    → ((i : ℕ) (x : View) → get_elem? views i ≡ some x → P x) → P w
    → (i : ℕ) (x : View) → get_elem? (set views id w) i ≡ some x → P x
each_view P views id w old here i x h = elim (at_set views id i w x h) as (λ _. P x) [
  | inl there ↦ subst P there.1 here
  | inr other ↦ old i x other.1
]

-- the view of a seat whose exchange at a share took units
abbrev took : View → List (Range ℕ) → List (Range ℕ) → ℕ → ℕ → View
took v claims transit share word =
    record v {
      claims = claims;
      transit = transit;
      met = word;
      met_at = share;
      exchanges = v.exchanges + 1;
      changes = v.changes + 1;
    }

module _ (sizes : Sizes) (sound : IsSound sizes) where
  -- ---- one seat's view changes, and words may

  sharing_after : (s : Table) → IsSharingOf sizes s → (id : ℕ) (v w : View)
      → get_elem? s.views id ≡ some v → (ws : List ℕ)
      → length ws ≡ length s.words
      → ((i : ℕ) → IsWithin sizes.units (get_or ws i 0))
      → ((c : ℕ) → c < sizes.cells → total (in_word (c / sizes.unit)) ws + in_view sizes c w ≡ total
      (in_word (c / sizes.unit)) s.words + in_view sizes c v)
      → ((c : ℕ) → sizes.cells ≤ c → in_ranges c w.claims ≡ in_ranges c v.claims)
      → w.owns ≡ v.owns
      → ((n : ℕ) → IsEmptyWord (get_or s.words (share_of sizes n) 0)
      → IsEmptyWord (get_or ws (share_of sizes n) 0) ⊎ (0 < times n v.owns))
      → ((i : ℕ) → Pays sizes (get_or ws i 0) → SomeSplitPays sizes) → (w.transit ≡ [])
      ⊎ SomeSplitPays sizes
      → Empties sizes ws w → Idle w → v.changes ≤ w.changes → (w.changes ≡ v.changes → ws ≡ s.words)
      → IsSharingOf sizes (record { words = ws; homes = s.homes; views = set s.views id w })
  sharing_after s k id v w e ws l within count past owns stay pays carry empties idle grows same =
      record {
        shares = l ∙ k.shares;
        within = within;
        once =
            λ c h. omega (
              arith,
              k.once c h,
              count c h,
              total_set (in_view sizes c) s.views id v w e,
            );
        no_more =
            λ c h. omega (
              arith,
              k.no_more c h,
              past c h,
              total_set (λ x. in_ranges c x.claims) s.views id v w e,
            );
        seats =
            λ n. omega (
              arith,
              k.seats n,
              ap (times n) owns,
              total_set (λ x. times n x.owns) s.views id v w e,
            );
        each = λ i x h. elim (at_set s.views id i w x h) as (λ _. Empties sizes ws x × Idle x) [
          | inl here ↦ subst (λ (y : View). Empties sizes ws y × Idle y) here.1 (empties, idle)
          | inr there ↦ let old = k.each i x there.1 in (
            (λ n. (
              (old.0 n).0,
              λ p. elim (stay n ((old.0 n).1 p)) [
                | inl empty ↦ empty
                | inr own ↦ absurd
                    (omega (
                      arith,
                      p,
                      own,
                      (old.0 n).0,
                      k.seats n,
                      inside_below n 0 sizes.workers,
                      total_two (λ y. times n y.owns) s.views id i v x e there.1 there.0,
                    ))
              ],
            )),
            old.1,
          )
        ];
        splits = pays;
        taken =
            each_view (λ x. (x.transit ≡ []) ⊎ SomeSplitPays sizes) s.views id w k.taken carry;
        opening = λ none_of. let t = total_set (λ x. x.changes) s.views id v w e in same
            (omega (arith, t, none_of, grows)) ∙ k.opening (omega (arith, t, none_of, grows));
      }

  -- the words stay, and the seat has no more and no less
  words_stay : (s : Table) → IsSharingOf sizes s → (id : ℕ) (v w : View)
      → get_elem? s.views id ≡ some v → (share : ℕ)
      → w.claims ≡ v.claims → w.transit ≡ v.transit → w.owns ≡ v.owns → w.changes ≡ v.changes
      → ¬ (w.owns ≡ []) → Empties sizes s.words w
      → IsSharingOf sizes (written s share (get_or s.words share 0) id w)
  words_stay s k id v w e share claims transit owns same has empties =
      rw (set_get s.words share)
      (sharing_after s k id v w e s.words refl k.within
      (λ c h. omega (arith, ap (in_ranges c) claims, ap (in_ranges (c / sizes.unit)) transit))
      (λ c h. ap (in_ranges c) claims) owns (λ n h. inl h) k.splits
      (subst (λ t. (t ≡ []) ⊎ SomeSplitPays sizes) (sym transit) (k.taken id v e)) empties
      (λ n. absurd (has n)) (omega (arith, same)) (λ _. refl))

  -- ---- an exchange

  -- an exchange takes units from a word that is not empty, and leaves a range of the others there
  takes_units : (s : Table) → IsSharingOf sizes s → (id : ℕ) (v : View)
      → get_elem? s.views id ≡ some v
      → (share word left : ℕ) (claims transit : List (Range ℕ)) → share < shares_of sizes
      → get_or s.words share 0 ≡ word → ¬ IsEmptyWord word → IsWithin sizes.units left
      → (Pays sizes left → Pays sizes word)
      → ((c : ℕ) → c < sizes.cells → in_word (c / sizes.unit) left
      + (in_ranges c claims + in_ranges (c / sizes.unit) transit) ≡ in_word (c / sizes.unit) word
      + in_view sizes c v)
      → ((c : ℕ) → sizes.cells ≤ c → in_ranges c claims ≡ in_ranges c v.claims)
      → ¬ (v.owns ≡ []) → (transit ≡ []) ⊎ SomeSplitPays sizes
      → IsSharingOf sizes (written s share left id (took v claims transit share word))
  takes_units s k id v e share word left claims transit exists found some_left inner pays count past
      has carry =
      let there : share < length s.words = omega (arith, k.shares) in
      let stay : (i : ℕ) → IsEmptyWord (get_or s.words i 0)
      → IsEmptyWord (get_or (set s.words share left) i 0) =
      λ i empty. elim (cases_eq i share) as
      (λ _. IsEmptyWord (get_or (set s.words share left) i 0)) [
        | inl is ↦ absurd (some_left (subst (λ (n : ℕ). IsEmptyWord n)
            (ap (λ j. get_or s.words j 0) is ∙ found) empty))
        | inr apart ↦ rw (get_or-set_other s.words share i left 0 apart) empty
      ] in
      sharing_after s k id v (took v claims transit share word) e (set s.words share left)
      (length-set s.words share left)
      (each_set (IsWithin sizes.units) s.words share left 0 k.within inner)
      (λ c h. omega (
        arith,
        total_put (in_word (c / sizes.unit)) s.words share left there,
        ap (in_word (c / sizes.unit)) found,
        count c h,
      ))
      past refl (λ n empty. inl (stay (share_of sizes n) empty))
      (each_set (λ n. Pays sizes n → SomeSplitPays sizes) s.words share left 0 k.splits
      (λ p. k.splits share (subst (Pays sizes) (sym found) (pays p))))
      carry
      (λ n. let old = (k.each id v e).0 n in (old.0, λ p. stay (share_of sizes n) (old.1 p)))
      (λ none_of. absurd (has none_of))
      (omega arith)
      (λ same. absurd (omega (arith, same)))

  -- an exchange that finds the word that was loaded, or another and takes nothing
  exchanges : (slots id share index old new : ℕ) (me : Me (Unit {0}) View) (hit : ℕ → View)
      → me.0.owns ≡ index ∷ []
      → ((s : Table) → IsSharingOf sizes s → get_elem? s.views id ≡ some me.0
      → get_or s.words share 0 ≡ old → IsSharingOf sizes (written s share new id (hit share)))
      → Allows (Spaced (IsSharingOf sizes)) slots id me (place_of share)
      (λ n. either (n == old) new n)
      (Exchanges (step slots (place_of share) old new none) me (hit (share_at (place_of share))))
  exchanges slots id share index old new me hit owns keeps_rule =
      let tried = step slots (place_of share) old new none in
      let tells = Exchanges tried me (hit (share_at (place_of share))) in
      let there = sym (share_at_place share) in
      allows_spaced (IsSharingOf sizes) slots id me share (λ n. either (n == old) new n) tells
      (λ s k h e b.
      let word = get_or s.words share 0 in
      exchanged word old new
      (λ m. (w : View) × (a : Act (Unit {0})) × Valid s.homes me.1 a
      × IsSharingOf sizes (stepped s share m id me.1 w a)
      × tells word (w, carried_after me.1 a))
      (λ is. (
        hit share,
        keeps,
        tt,
        keeps_rule s k e is,
        (λ _. ap hit there, λ no. absurd (no is), refl, ap place_of there),
      ))
      (λ miss. (
        missed me.0 share word,
        keeps,
        tt,
        words_stay s k id me.0 (missed me.0 share word) e share refl refl refl refl
            (not_empty me.0.owns index owns) (k.each id me.0 e).0,
        (
          λ no. absurd (miss no),
          λ _. ap (λ i. missed me.0 i word) there,
          refl,
          ap place_of there,
        ),
      )))

  -- ---- a load

  -- a word that was just seen to be empty or not
  sees_own_word : (s : Table) → IsSharingOf sizes s → (id : ℕ) (v : View)
      → get_elem? s.views id ≡ some v → (share index : ℕ) → v.owns ≡ index ∷ []
      → share ≡ share_of sizes index
      → Empties sizes s.words (looked_own v share (get_or s.words share 0))
  sees_own_word s k id v e share index owns own =
      let word = get_or s.words share 0 in
      elim (cases_eq (start_of word) (end_of word)) as
      (λ _. Empties sizes s.words (looked_own v share word)) [
        | inl is ↦ rw (eq-eqb (start_of word) (end_of word) is) (λ n. (
          omega arith,
          λ p.
              let same : n ≡ index = is_same n index (omega (arith, p, ap (times n) owns)) in
              let there : share_of sizes n ≡ share = ap (share_of sizes) same ∙ sym own in
              rw there is,
        ))
        | inr apart ↦ rw (ne_eqb (start_of word) (end_of word) apart) (k.each id v e).0
      ]

  pub looks_own : (slots id share index : ℕ) (me : Me (Unit {0}) View) → me.0.plan ≡ sizes
      → me.0.owns ≡ index ∷ [] → share ≡ share_of sizes index
      → Allows (Spaced (IsSharingOf sizes)) slots id me (place_of share) (λ n. n)
      (LooksOwn (step slots (place_of share) 0 0 none) me)
  looks_own slots id share index me plan owns own =
      allows_spaced (IsSharingOf sizes) slots id me share (λ n. n)
      (LooksOwn (step slots (place_of share) 0 0 none) me) (λ s k h e b.
      let word = get_or s.words share 0 in
      let w = looked_own me.0 share word in (
        w,
        keeps,
        tt,
        words_stay s k id me.0 w e share refl refl refl refl (not_empty me.0.owns index owns)
            (sees_own_word s k id me.0 e share index owns own),
        (
          subst (λ (z : Sizes). IsWithin z.units word) (sym plan) (k.within share),
          ap (λ i. looked_own me.0 i word) (sym (share_at_place share)),
          refl,
          ap place_of (sym (share_at_place share)),
        ),
      ))

  -- ---- a claim

  module _ (share index word : ℕ) (v : View) (plan : v.plan ≡ sizes) (owns : v.owns ≡ index ∷ [])
      (exists : share < shares_of sizes) (inner : IsWithin sizes.units word)
      (some_left : ¬ IsEmptyWord word) where
    abbrev stop : ℕ
    stop = claim_stop sizes word

    abbrev next : ℕ
    next = packed stop (end_of word)

    -- the claim is a front of the word
    front : (start_of word < stop) × (stop ≤ end_of word) × (end_of word ≤ sizes.units)
    front = claim_front sizes sound word inner some_left

    fits : end_of word ≤ 65535
    fits = omega (arith, front.2, sound.units_fit)

    -- the cells of the claim are those of its units
    claimed : (c : ℕ) → c < sizes.cells
        → in_range c (claim_cells v.plan word) ≡ inside (c / sizes.unit) (start_of word) stop
    claimed c h =
        ap (λ (z : Sizes). in_range c (claim_cells z word)) plan
        ∙ inside_cells c (start_of word) stop sizes.unit sizes.cells sound.unit_counts h

    not_claimed : (c : ℕ) → sizes.cells ≤ c → in_range c (claim_cells v.plan word) ≡ 0
    not_claimed c h =
        ap (λ (z : Sizes). in_range c (claim_cells z word)) plan
        ∙ inside_no_cells c (start_of word) stop sizes.unit sizes.cells h

    takes : (s : Table) → IsSharingOf sizes s → (id : ℕ) → get_elem? s.views id ≡ some v
        → get_or s.words share 0 ≡ word → IsSharingOf sizes
        (written s share next id (took_front v share word))
    takes s k id e found =
        takes_units s k id v e share word next (v.claims ++ claim_cells v.plan word ∷ []) v.transit
        exists found some_left
        (within_packed sizes.units stop (end_of word) sound.units_fit front.1 front.2)
        (pays_front sizes word stop (omega (arith, front.0)) front.1 fits)
        (λ c h. omega (
          arith,
          cut_front (c / sizes.unit) word stop (omega (arith, front.0)) front.1 fits,
          in_ranges_push c v.claims (claim_cells v.plan word),
          claimed c h,
        ))
        (λ c h. omega (arith, in_ranges_push c v.claims (claim_cells v.plan word), not_claimed c h))
        (not_empty v.owns index owns)
        (k.taken id v e)

  pub takes_front : (slots id share index old new : ℕ) (me : Me (Unit {0}) View) → me.0.plan ≡ sizes
      → me.0.owns ≡ index ∷ [] → share < shares_of sizes → IsWithin sizes.units old
      → ¬ IsEmptyWord old → new ≡ packed (claim_stop sizes old) (end_of old)
      → Allows (Spaced (IsSharingOf sizes)) slots id me (place_of share)
      (λ n. either (n == old) new n) (TakesFront (step slots (place_of share) old new none) me)
  takes_front slots id share index old new me plan owns exists inner some_left is =
      exchanges slots id share index old new me (λ i. took_front me.0 i old) owns
      (λ s k e found. rw is (takes share index old me.0 plan owns exists inner some_left s k id e
      found))

  -- ---- a load of another share

  pub looks_at : (slots id share index : ℕ) (me : Me (Unit {0}) View) → me.0.plan ≡ sizes
      → me.0.owns ≡ index ∷ []
      → Allows (Spaced (IsSharingOf sizes)) slots id me (place_of share) (λ n. n)
      (LooksAt (step slots (place_of share) 0 0 none) me)
  looks_at slots id share index me plan owns =
      allows_spaced (IsSharingOf sizes) slots id me share (λ n. n)
      (LooksAt (step slots (place_of share) 0 0 none) me) (λ s k h e b.
      let word = get_or s.words share 0 in
      let w = looked me.0 share word in (
        w,
        keeps,
        tt,
        words_stay s k id me.0 w e share refl refl refl refl (not_empty me.0.owns index owns)
            (k.each id me.0 e).0,
        (
          subst (λ (z : Sizes). IsWithin z.units word) (sym plan) (k.within share),
          subst (λ (z : Sizes). Pays z word → SomeSplitPays z) (sym plan) (k.splits share),
          ap (λ i. looked me.0 i word) (sym (share_at_place share)),
          refl,
          ap place_of (sym (share_at_place share)),
        ),
      ))

  -- ---- a steal

  module _ (share index word : ℕ) (v : View) (owns : v.owns ≡ index ∷ []) (bare : v.transit ≡ [])
      (exists : share < shares_of sizes) (inner : IsWithin sizes.units word)
      (pays : Pays sizes word) where
    abbrev middle : ℕ
    middle = middle_of word

    abbrev left : ℕ
    left = packed (start_of word) middle

    -- both halves have units
    halves : (start_of word < middle) × (middle < end_of word) × (end_of word ≤ sizes.units)
    halves = two_halves sizes word inner pays

    not_none : ¬ IsEmptyWord word
    not_none empty = absurd (omega (arith, pays.0, empty))

    steals : (s : Table) → IsSharingOf sizes s → (id : ℕ) → get_elem? s.views id ≡ some v
        → get_or s.words share 0 ≡ word → IsSharingOf sizes
        (written s share left id (took_back v share word))
    steals s k id e found =
        takes_units s k id v e share word left v.claims (back_half word ∷ []) exists found not_none
        (within_packed sizes.units (start_of word) middle sound.units_fit (omega (arith, halves.0))
        (omega (arith, halves.1, inner.1)))
        (λ _. pays)
        (λ c h. omega (
          arith,
          cut_back (c / sizes.unit) word middle (omega (arith, halves.0)) (omega (arith, halves.1))
              (omega (arith, halves.2, sound.units_fit)),
          ap (in_ranges (c / sizes.unit)) bare,
        ))
        (λ c h. refl)
        (not_empty v.owns index owns)
        (inr (k.splits share (subst (Pays sizes) (sym found) pays)))

  pub takes_back : (slots id share index old new : ℕ) (me : Me (Unit {0}) View)
      → me.0.owns ≡ index ∷ [] → me.0.transit ≡ [] → share < shares_of sizes
      → IsWithin sizes.units old → Pays sizes old → new ≡ packed (start_of old) (middle_of old)
      → Allows (Spaced (IsSharingOf sizes)) slots id me (place_of share)
      (λ n. either (n == old) new n) (TakesBack (step slots (place_of share) old new none) me)
  takes_back slots id share index old new me owns bare exists inner pays is =
      exchanges slots id share index old new me (λ i. took_back me.0 i old) owns
      (λ s k e found. rw is (steals share index old me.0 owns bare exists inner pays s k id e
      found))

  -- ---- a refill

  -- in a plan that cuts rows a seat's share has its number
  own_number : sizes.whole ≡ false → (n : ℕ) → share_of sizes n ≡ n
  own_number cut n = ap (λ b. cond b 0 n) cut

  module _ (index : ℕ) (units : Range ℕ) (v : View) (owns : v.owns ≡ index ∷ [])
      (empties : v.empties ≡ index ∷ []) (carries : v.transit ≡ units ∷ [])
      (cut : sizes.whole ≡ false) (some_units : units.start < units.end)
      (inner : units.end ≤ sizes.units) (exists : index < shares_of sizes) where
    abbrev filling : ℕ
    filling = packed units.start units.end

    fills : (s : Table) → IsSharingOf sizes s → (id : ℕ) → get_elem? s.views id ≡ some v
        → IsSharingOf sizes (written s index filling id (put_down v index filling))
    fills s k id e =
        let there : index < length s.words = omega (arith, k.shares) in
        let fit : units.end ≤ 65535 = omega (arith, inner, sound.units_fit) in
        let seen : 0 < times index v.empties =
        omega (arith, ap (times index) empties, same_once index) in
        let empty : IsEmptyWord (get_or s.words index 0) = subst
        (λ j. IsEmptyWord (get_or s.words j 0)) (own_number cut index)
        (((k.each id v e).0 index).1 seen) in
        let own : 0 < times index v.owns = omega (arith, ap (times index) owns, same_once index) in
        sharing_after s k id v (put_down v index filling) e (set s.words index filling)
        (length-set s.words index filling)
        (each_set (IsWithin sizes.units) s.words index filling 0 k.within
        (within_packed sizes.units units.start units.end sound.units_fit (omega arith) inner))
        (λ c h.
        let u = c / sizes.unit in
        let was : in_word u (get_or s.words index 0) ≡ 0 = inside_nothing u
        (start_of (get_or s.words index 0)) (end_of (get_or s.words index 0))
        (omega (arith, empty)) in
        let now : in_word u filling ≡ inside u units.start units.end = rw
        (start_of_packed units.start units.end fit, end_of_packed units.start units.end fit)
        refl in
        omega (
          arith,
          total_put (in_word u) s.words index filling there,
          was,
          now,
          ap (in_ranges u) carries,
        ))
        (λ c h. refl)
        refl
        (λ n was. elim (cases_eq n index) [
          | inl is ↦ inr (subst (λ j. 0 < times j v.owns) (sym is) own)
          | inr apart ↦ inl (subst (λ j. IsEmptyWord (get_or (set s.words index filling) j 0))
              (sym (own_number cut n)) (rw (get_or-set_other s.words index n filling 0 apart)
              (subst (λ j. IsEmptyWord (get_or s.words j 0)) (own_number cut n) was)))
        ])
        (each_set (λ n. Pays sizes n → SomeSplitPays sizes) s.words index filling 0 k.splits
        (λ _. elim (k.taken id v e) [
          | inl none_of ↦ absurd
              (not_empty v.transit units carries none_of)
          | inr splits ↦ splits
        ]))
        (inl refl)
        (λ n. (omega arith, λ p. absurd (omega (arith, p))))
        (λ none_of. absurd (not_empty v.owns index owns none_of))
        (omega arith)
        (λ same. absurd (omega (arith, same)))

  pub puts_down : (slots id share index : ℕ) (units : Range ℕ) (new : ℕ) (me : Me (Unit {0}) View)
      → me.0.owns ≡ index ∷ [] → me.0.empties ≡ index ∷ [] → me.0.transit ≡ units ∷ []
      → sizes.whole ≡ false → units.start < units.end → units.end ≤ sizes.units
      → index < shares_of sizes → share ≡ index → new ≡ packed units.start units.end
      → Allows (Spaced (IsSharingOf sizes)) slots id me (place_of share) (λ _. new)
      (λ _. PutsDown (step slots (place_of share) new 0 none) me new)
  puts_down slots id share index units new me owns empties carries cut some_units inner exists at
      is =
      allows_spaced (IsSharingOf sizes) slots id me share (λ _. new)
      (λ _. PutsDown (step slots (place_of share) new 0 none) me new) (λ s k h e b. (
        put_down me.0 share new,
        keeps,
        tt,
        rw (at, is) (fills index units me.0 owns empties carries cut some_units inner exists s k id
            e),
        (
          ap (λ i. put_down me.0 i new) (sym (share_at_place share)),
          refl,
          ap place_of (sym (share_at_place share)),
        ),
      ))
