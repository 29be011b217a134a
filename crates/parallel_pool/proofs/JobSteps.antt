-- Each push to a queue of jobs and each take from it keeps the history's rule.
use Rattle.parallel_pool.proofs.Common.{◌≡◌, ◌≢◌, ℕ, ◌+◌, ◌<◌, ◌≤◌, ◌==◌, Bool, true, false, cond, List, [], ◌∷◌, ◌++◌, length, set, map, refl, sym, ap, subst, ◌∙◌, ⊎_elim, append-nil, arith, eq-eqb}
use Rattle.parallel_pool.proofs.Common.{ne_eqb, length-set, length-append, Option, Some, None, Result, Ok, Err, MatchOption, MatchResult, dite, ℕ_discrete, cons-ne-nil, head-eq_of_cons-eq}
use Rattle.parallel_pool.proofs.Common.{tail-eq_of_cons-eq, some, some-ne-none, get_elem?, at_set, Deed, Push, TakeFirst, TakeLast, Event, JobView, Lineup, event, job_view, new_pass, no_jobs}
use Rattle.parallel_pool.proofs.Common.{DeedMoves, DeedsLead, events_by, FitsJobs, IsJobHistoryOf, one_push, one_take, times_pushed, times_taken, IsEachOnce, Extends, HasPushed, HasTaken}
use Rattle.crossbeam_deque.specs.Steals.{MatchSteal}
use Rattle.crossbeam_deque.specs.declared.steal.Steal.{Steal}
use Rattle.crossbeam_deque.specs.declared.steal.Steal.TheVariants.{Empty, Success, Retry}
use Rattle.crossbeam_deque.specs.Tasks.{Pushes, Takes, Pops, Admits}
use Rattle.parallel_pool.proofs.HistoryBeginnings.{begins_on}
use Rattle.parallel_pool.proofs.ListLookups.{within, at_end}

none_either : (b : Bool) → cond {A = ℕ} b 0 0 ≡ 0
none_either true = refl
none_either false = refl

module _ {T : Type 0} where
  -- a history with one deed more leads on
  leads_on : (s : Lineup T) (log : List (Event T)) (e : Event T) (m t : Lineup T)
      → DeedsLead s log m → DeedMoves e.deed e.number e.job m t → DeedsLead s (log ++ e ∷ []) t
  leads_on s [] e m t same moves =
      (t, subst (λ (x : Lineup T). DeedMoves e.deed e.number e.job x t) (sym same) moves, refl)
  leads_on s (x ∷ xs) e m t leads moves =
      (leads.0, leads.1, leads_on leads.0 xs e m t leads.2 moves)

  -- how often a number stands among the jobs in a queue
  abbrev times_left : ℕ → List (ℕ × T) → ℕ
  times_left number [] = 0
  times_left number (p ∷ ps) = cond (p.0 == number) 1 0 + times_left number ps

  left_more : (number : ℕ) (left : List (ℕ × T)) (p : ℕ × T)
      → times_left number (left ++ p ∷ []) ≡ times_left number left + cond (p.0 == number) 1 0
  left_more number [] p = omega arith
  left_more number (q ∷ qs) p = let h = left_more number qs p in omega (arith, h)

  -- a deed keeps count of a number: what was there or pushed is taken or there
  counts_one : (number : ℕ) (deed : Deed) (n : ℕ) (job : T) (s t : Lineup T)
      → DeedMoves deed n job s t
      → times_left number s.left + cond (n == number) (one_push deed) 0
      ≡ cond (n == number) (one_take deed) 0 + times_left number t.left
  counts_one number Push n job s t moves =
      let e : times_left number t.left ≡ times_left number (s.left ++ (n, job) ∷ []) =
      ap (times_left number) moves.2 in
      omega (arith, e, left_more number s.left (n, job), none_either (n == number))
  counts_one number TakeFirst n job s t moves =
      let e : times_left number s.left ≡ times_left number ((n, job) ∷ t.left) =
      ap (times_left number) moves.1 in
      omega (arith, e, none_either (n == number))
  counts_one number TakeLast n job s t moves =
      let e : times_left number s.left ≡ times_left number (t.left ++ (n, job) ∷ []) =
      ap (times_left number) moves.1 in
      omega (arith, e, left_more number t.left (n, job), none_either (n == number))

  counts : (number : ℕ) (s : Lineup T) (log : List (Event T)) (t : Lineup T) → DeedsLead s log t
      → times_left number s.left + times_pushed number log ≡ times_taken number log + times_left
      number t.left
  counts number s [] t same =
      let e : times_left number s.left ≡ times_left number t.left =
      ap (λ (x : Lineup T). times_left number x.left) same in
      omega (arith, e)
  counts number s (x ∷ xs) t leads =
      let one = counts_one number x.deed x.number x.job s leads.0 leads.1 in
      let rest = counts number leads.0 xs t leads.2 in omega (arith, one, rest)

  -- no deed takes the next number back
  goes_up : (deed : Deed) (n : ℕ) (job : T) (s t : Lineup T) → DeedMoves deed n job s t
      → s.next ≤ t.next
  goes_up Push n job s t moves = omega (arith, moves.1)
  goes_up TakeFirst n job s t moves = omega (arith, moves.0)
  goes_up TakeLast n job s t moves = omega (arith, moves.0)

  -- a push gives no number below the next one
  not_below : (number : ℕ) (deed : Deed) (n : ℕ) (job : T) (s t : Lineup T)
      → DeedMoves deed n job s t → number < s.next → cond (n == number) (one_push deed) 0 ≡ 0
  not_below number Push n job s t moves below = ap (λ b. cond {A = ℕ} b 1 0)
      (ne_eqb n number (λ e. absurd (omega (arith, e, moves.0, below))))
  not_below number TakeFirst n job s t moves below = none_either (n == number)
  not_below number TakeLast n job s t moves below = none_either (n == number)

  none_below : (number : ℕ) (s : Lineup T) (log : List (Event T)) (t : Lineup T) → DeedsLead s log t
      → number < s.next → times_pushed number log ≡ 0
  none_below number s [] t same below = refl
  none_below number s (x ∷ xs) t leads below =
      let up = goes_up x.deed x.number x.job s leads.0 leads.1 in
      let rest = none_below number leads.0 xs t leads.2 (omega (arith, up, below)) in
      let here = not_below number x.deed x.number x.job s leads.0 leads.1 below in
      omega (arith, here, rest)

  -- a push of a number is the only one
  only_push : (number : ℕ) (deed : Deed) (n : ℕ) (job : T) (s t : Lineup T) (rest : ℕ)
      → DeedMoves deed n job s t → (number < t.next → rest ≡ 0) → rest ≤ 1
      → cond (n == number) (one_push deed) 0 + rest ≤ 1
  only_push number Push n job s t rest moves none few = dite (ℕ_discrete n number)
      (λ e. let none' : rest ≡ 0 = none (omega (arith, e, moves.0, moves.1)) in let b : cond {A = ℕ}
      (n == number) 1 0 ≡ 1 = ap (λ b. cond {A = ℕ} b 1 0) (eq-eqb n number e) in omega
      (arith, b, none'))
      (λ ne. let b : cond {A = ℕ} (n == number) 1 0 ≡ 0 = ap (λ b. cond {A = ℕ} b 1 0)
      (ne_eqb n number ne) in omega (arith, b, few))
  only_push number TakeFirst n job s t rest moves none few =
      omega (arith, none_either (n == number), few)
  only_push number TakeLast n job s t rest moves none few =
      omega (arith, none_either (n == number), few)

  one_pushed : (number : ℕ) (s : Lineup T) (log : List (Event T)) (t : Lineup T) → DeedsLead s log t
      → times_pushed number log ≤ 1
  one_pushed number s [] t same = omega arith
  one_pushed number s (x ∷ xs) t leads = only_push number x.deed x.number x.job s leads.0
      (times_pushed number xs) leads.1 (none_below number leads.0 xs t leads.2)
      (one_pushed number leads.0 xs t leads.2)

  -- in a history of a queue, each job that was taken was pushed, and none was pushed or taken twice
  pub each_once : (log : List (Event T)) (t : Lineup T) → DeedsLead no_jobs log t → IsEachOnce log
  each_once log t leads number =
      let c = counts number no_jobs log t leads in
      (omega (arith, c), one_pushed number no_jobs log t leads)

  events_by-append : (by : ℕ) (xs ys : List (Event T))
      → events_by by (xs ++ ys) ≡ events_by by xs ++ events_by by ys
  events_by-append by [] ys = refl
  events_by-append by (x ∷ xs) ys =
      elim (x.by == by) as (λ b. cond b (x ∷ events_by by (xs ++ ys))
      (events_by by (xs ++ ys)) ≡ cond b (x ∷ events_by by xs)
      (events_by by xs) ++ events_by by ys) [
        | true ↦ ap (λ l. x ∷ l) (events_by-append by xs ys)
        | false ↦ events_by-append by xs ys
      ]

  -- a deed is one of its pass, and of no other
  events_by-own : (by : ℕ) (e : Event T) (xs : List (Event T)) → e.by ≡ by
      → events_by by (xs ++ e ∷ []) ≡ events_by by xs ++ e ∷ []
  events_by-own by e xs same = events_by-append by xs (e ∷ [])
      ∙ ap (λ b. events_by by xs ++ cond b (e ∷ []) []) (eq-eqb e.by by same)

  events_by-other : (other : ℕ) (e : Event T) (xs : List (Event T)) → e.by ≢ other
      → events_by other (xs ++ e ∷ []) ≡ events_by other xs
  events_by-other other e xs ne = events_by-append other xs (e ∷ [])
      ∙ (ap (λ b. events_by other xs ++ cond b (e ∷ []) []) (ne_eqb e.by other ne)
      ∙ append-nil (events_by other xs))

  -- a deed of the pass `id` keeps the rule, and tells what the pass has seen
  grows : (items after : List T) (views : List (JobView T)) (id : ℕ) (v : JobView T) (e : Event T)
      → e.by ≡ id → get_elem? views id ≡ some v
      → (h : IsJobHistoryOf items views) → (t : Lineup T) → DeedMoves e.deed e.number e.job h.1 t
      → map (λ (p : ℕ × T). p.1) t.left ≡ after
      → (w : JobView T) × IsJobHistoryOf after (set views id w) × Extends v e w
  grows items after views id v e by at h t moves same =
      let log : List (Event T) = h.0 in
      let mine : FitsJobs log id v = h.4 id v at in
      let all : List (Event T) = log ++ e ∷ [] in
      let w : JobView T = job_view all (v.own ++ e ∷ []) in
      let own : events_by id all ≡ v.own ++ e ∷ [] = events_by-own id e log by
      ∙ ap (λ l. l ++ e ∷ []) mine.1 in
      let leads : DeedsLead no_jobs all t = leads_on no_jobs log e h.1 t h.2 moves in
      let long : length (set views id w) ≡ length views = length-set views id w in
      let here : id < length views = within views id v at in (
        w,
        (
          all,
          t,
          leads,
          same,
          (λ other u there. ⊎_elim
              (λ (x : (other ≡ id) × (w ≡ u)). subst (λ (y : ℕ × JobView T). FitsJobs all y.0 y.1)
              (λ i. (sym x.0 i, x.1 i)) (([], sym (append-nil all)), own))
              (λ (x : (other ≢ id) × (get_elem? views other ≡ some u)).
              let old : FitsJobs log other u = h.4 other u x.1 in (
                begins_on log u.seen (e ∷ []) old.0,
                events_by-other other e log (λ q. x.0 (sym q ∙ by)) ∙ old.1,
              ))
              (at_set views id other w u there)),
          (λ other far. events_by-other other e log
              (λ q. absurd (omega (arith, q, by, far, long, here)))
              ∙ h.5 other (omega (arith, far, long))),
        ),
        record {
          before = log;
          begins = mine.0;
          ends = refl;
          legal = (t, leads);
          own = refl;
          all = ap (λ k. events_by k all) by ∙ own;
          once = each_once all t leads;
        },
      )

  map_append : (xs ys : List (ℕ × T))
      → map (λ (p : ℕ × T). p.1) (xs ++ ys) ≡ map (λ (p : ℕ × T). p.1) xs ++ map
      (λ (p : ℕ × T). p.1) ys
  map_append [] ys = refl
  map_append (x ∷ xs) ys = ap (λ l. x.1 ∷ l) (map_append xs ys)

  -- a push keeps the rule
  pub pushes : (id : ℕ) (v : JobView T) (x : T)
      → Pushes IsJobHistoryOf id v (x ∷ []) (λ w. (y : T) → x ∷ [] ≡ y ∷ [] → HasPushed v y w)
  pushes id v x items views h at =
      let now : Lineup T = h.1 in
      let t : Lineup T = record { next = now.next + 1; left = now.left ++ (now.next, x) ∷ [] } in
      let g = grows items (items ++ x ∷ []) views id v (event id Push now.next x false) refl at h t
      (refl, refl, refl) (map_append now.left ((now.next, x) ∷ []) ∙ ap (λ l. l ++ x ∷ []) h.3)
      in
      (g.0, g.1, (λ y e. subst (λ z. HasPushed v z g.0) (head-eq_of_cons-eq e) (id, now.next, g.2)))

  -- the first of the jobs in a queue, with its number
  first_of : (left : List (ℕ × T)) (x : T) (items : List T)
      → map (λ (p : ℕ × T). p.1) left ≡ x ∷ items
      → (n : ℕ) × (rest : List (ℕ × T)) × (left ≡ (n, x) ∷ rest)
      × (map (λ (p : ℕ × T). p.1) rest ≡ items)
  first_of [] x items e = absurd (cons-ne-nil _ _ (sym e))
  first_of (p ∷ ps) x items e =
      (p.0, ps, (λ i. (p.0, head-eq_of_cons-eq e i) ∷ ps), tail-eq_of_cons-eq e)

  -- and the last of them
  last_of : (left : List (ℕ × T)) (x : T) (items : List T)
      → map (λ (p : ℕ × T). p.1) left ≡ items ++ x ∷ []
      → (n : ℕ) × (rest : List (ℕ × T)) × (left ≡ rest ++ (n, x) ∷ [])
      × (map (λ (p : ℕ × T). p.1) rest ≡ items)
  last_of [] x [] e = absurd (cons-ne-nil _ _ (sym e))
  last_of [] x (y ∷ ys) e = absurd (cons-ne-nil _ _ (sym e))
  last_of (p ∷ []) x [] e = (p.0, [], (λ i. (p.0, head-eq_of_cons-eq e i) ∷ []), refl)
  last_of (p ∷ []) x (y ∷ []) e = absurd (cons-ne-nil _ _ (sym (tail-eq_of_cons-eq e)))
  last_of (p ∷ []) x (y ∷ z ∷ zs) e = absurd (cons-ne-nil _ _ (sym (tail-eq_of_cons-eq e)))
  last_of (p ∷ q ∷ ps) x [] e = absurd (cons-ne-nil _ _ (tail-eq_of_cons-eq e))
  last_of (p ∷ q ∷ ps) x (y ∷ ys) e =
      let rest = last_of (q ∷ ps) x ys (tail-eq_of_cons-eq e) in
      (rest.0, p ∷ rest.1, ap (λ l. p ∷ l) rest.2, (λ i. head-eq_of_cons-eq e i ∷ rest.3 i))

  -- a take of the first job keeps the rule
  pub takes : (called : Bool) (id : ℕ) (v : JobView T)
      → Takes IsJobHistoryOf id v 1 (λ xs w. (x : T) → xs ≡ x ∷ []
      → HasTaken TakeFirst called v x w)
  takes called id v [] items views any few h at = absurd (omega (arith, any))
  takes called id v (x ∷ []) items views any few h at =
      let now : Lineup T = h.1 in
      let f = first_of now.left x items h.3 in
      let t : Lineup T = record { next = now.next; left = f.1 } in
      let g = grows (x ∷ items) items views id v (event id TakeFirst f.0 x called) refl at h t
      (refl, f.2) f.3 in (
        g.0,
        g.1,
        (λ y e. subst (λ z. HasTaken TakeFirst called v z g.0) (head-eq_of_cons-eq e)
            (id, f.0, g.2)),
      )
  takes called id v (x ∷ y ∷ ys) items views any few h at = absurd (omega (arith, few))

  -- a take of the last job keeps the rule
  pub pops : (called : Bool) (id : ℕ) (v : JobView T)
      → Pops IsJobHistoryOf id v (λ xs w. (x : T) → xs ≡ x ∷ [] → HasTaken TakeLast called v x w)
  pops called id v x items views h at =
      let now : Lineup T = h.1 in
      let f = last_of now.left x items h.3 in
      let t : Lineup T = record { next = now.next; left = f.1 } in
      let g = grows (items ++ x ∷ []) items views id v (event id TakeLast f.0 x called) refl at h t
      (refl, f.2) f.3 in (
        g.0,
        g.1,
        (λ y e. subst (λ z. HasTaken TakeLast called v z g.0) (head-eq_of_cons-eq e)
            (id, f.0, g.2)),
      )

  -- a new pass, which has seen nothing, keeps the rule
  pub admits : Admits (IsJobHistoryOf {T = T}) new_pass
  admits items views h = (
    h.0,
    h.1,
    h.2,
    h.3,
    (λ by v e. ⊎_elim
        (λ (t : get_elem? views by ≡ some v). h.4 by v t)
        (λ (t : (by ≡ length views) × (new_pass ≡ v)). subst
        (λ (x : JobView T). FitsJobs h.0 by x) t.1 ((h.0, refl), h.5 by (omega (arith, t.0))))
        (at_end views new_pass v by e)),
    (λ by far. h.5 by (omega (arith, far, length-append views (new_pass ∷ [])))),
  )

  -- a queue to which nothing was pushed keeps the rule
  pub job_opens : IsJobHistoryOf {T = T} [] (new_pass ∷ [])
  job_opens = (
    [],
    no_jobs,
    refl,
    refl,
    (λ by v e. ⊎_elim
        (λ (t : get_elem? (let none : List (JobView T) = [] in none) by ≡ some v). absurd
        (some-ne-none v (sym t)))
        (λ (t : (by ≡ 0) × (new_pass ≡ v)). subst (λ (x : JobView T). FitsJobs [] by x) t.1
        (([], refl), refl))
        (at_end [] new_pass v by e)),
    (λ by far. refl),
  )

  -- what a pass is told of a push
  pub pushed : {U : Type 0} (r : Result U T) (job : T) (v u w : JobView T) → v ≡ u
      → MatchResult r (λ _. (x : T) → job ∷ [] ≡ x ∷ [] → HasPushed v x w)
      (λ x. (x ≡ job) × (w ≡ v))
      → MatchResult r (λ _. HasPushed u job w) (λ x. (x ≡ job) × (w ≡ u))
  pushed (Ok a) job v u w same told = subst (λ x. HasPushed x job w) same (told job refl)
  pushed (Err x) job v u w same told = (told.0, told.1 ∙ same)

  -- what a pass is told of a steal
  pub stolen : {E R : Type 0} (deed : Deed) (called : Bool) (r : Steal T) (v u w : JobView T)
      → v ≡ u → (E → w ≡ v) → (R → w ≡ v)
      → MatchSteal r E R (λ x. (y : T) → x ∷ [] ≡ y ∷ [] → HasTaken deed called v y w)
      → MatchSteal r (w ≡ u) (w ≡ u) (λ x. HasTaken deed called u x w)
  stolen deed called Empty v u w same empty retry told = empty told ∙ same
  stolen deed called Retry v u w same empty retry told = retry told ∙ same
  stolen deed called (Success x) v u w same empty retry told =
      subst (λ z. HasTaken deed called z x w) same (told x refl)

  -- what a pass is told of a pop
  pub popped : {E : Type 0} (deed : Deed) (called : Bool) (r : Option T) (v u w : JobView T) → v ≡ u
      → (E → w ≡ v)
      → MatchOption r E (λ x. (y : T) → x ∷ [] ≡ y ∷ [] → HasTaken deed called v y w)
      → MatchOption r (w ≡ u) (λ x. HasTaken deed called u x w)
  popped deed called None v u w same empty told = empty told ∙ same
  popped deed called (Some x) v u w same empty told =
      subst (λ z. HasTaken deed called z x w) same (told x refl)

-- what holds of a result by its cases, made less of
pub told : {A B : Type 0} {P P' : A → Type 0} {Q Q' : B → Type 0} (r : Result A B)
    → MatchResult r P Q → ((a : A) → P a → P' a) → ((b : B) → Q b → Q' b) → MatchResult r P' Q'
told (Ok a) h ok err = ok a h
told (Err b) h ok err = err b h
