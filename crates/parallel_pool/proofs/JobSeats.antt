-- What a seat knows after one of its passes has pushed or taken.
use Rattle.parallel_pool.proofs.Common.{◌≡◌, ℕ, ◌+◌, List, ◌++◌, length, arith, sym, append_assoc, length-append, length-set, [], ◌∷◌, zero, suc, set, get_or, refl, ap, subst, ◌∙◌, Option, Some, None}
use Rattle.parallel_pool.proofs.Common.{Result, Ok, Err, MatchOption, MatchResult, JobView, Queue, Injected, Broadcast, Deque, new_pass, HasPushed, SeatView, view_of, with_view, Does, PushesFrom}

module _ {T : Type 0} where
  -- a list into which what stands at a place is written there again
  set_read : (l : List (JobView T)) (i : ℕ) (d : JobView T) → set l i (get_or l i d) ≡ l
  set_read [] i d = refl
  set_read (x ∷ xs) zero d = refl
  set_read (x ∷ xs) (suc i) d = ap (λ l. x ∷ l) (set_read xs i d)

  -- a seat that knows again what it knew of a queue
  same_again : (queue : Queue) (s : SeatView T) → with_view queue (view_of queue s) s ≡ s
  same_again Injected s = refl
  same_again (Broadcast i) s =
      λ k. record {
        injected = s.injected;
        broadcasts = set_read s.broadcasts i new_pass k;
        deques = s.deques;
      }
  same_again (Deque i) s =
      λ k. record {
        injected = s.injected;
        broadcasts = s.broadcasts;
        deques = set_read s.deques i new_pass k;
      }

  -- what one pass is told of a take, for the whole seat
  pub after_take : (queue : Queue) (deed : T → JobView T → JobView T → Type 0) (inside : SeatView T)
      (v w : JobView T) (now : SeatView T) (r : Option T)
      → inside ≡ now → v ≡ view_of queue inside
      → MatchOption r (w ≡ v) (λ job. deed job v w)
      → MatchOption r (with_view queue w inside ≡ now)
      (λ job. Does queue (deed job) now (with_view queue w inside))
  after_take queue deed inside v w now None same read told =
      ap (λ x. with_view queue x inside) (told ∙ read) ∙ (same_again queue inside ∙ same)
  after_take queue deed inside v w now (Some job) same read told =
      subst (λ (s : SeatView T). Does queue (deed job) s (with_view queue w inside)) same
      (w, subst (λ x. deed job x w) read told, refl)

  -- and of a push
  pub after_push : {U : Type 0} (queue : Queue) (deed : JobView T → JobView T → Type 0)
      (inside : SeatView T) (v w : JobView T) (now : SeatView T) (job : T) (r : Result U T)
      → inside ≡ now → v ≡ view_of queue inside
      → MatchResult r (λ _. deed v w) (λ back. (back ≡ job) × (w ≡ v))
      → MatchResult r (λ _. Does queue deed now (with_view queue w inside))
      (λ back. (back ≡ job) × (with_view queue w inside ≡ now))
  after_push queue deed inside v w now job (Ok a) same read told =
      subst (λ (s : SeatView T). Does queue deed s (with_view queue w inside)) same
      (w, subst (λ x. deed x w) read told, refl)
  after_push queue deed inside v w now job (Err back) same read told = (
    told.0,
    ap (λ x. with_view queue x inside) (told.1 ∙ read)
        ∙ (same_again queue inside ∙ same),
  )

  -- one more job was pushed
  pub pushes_more : (worker : ℕ) (done : List T) (job : T) (old mid new : SeatView T)
      → PushesFrom worker done old mid
      → Does (Broadcast (worker + length done)) (λ v w. HasPushed v job w) mid new
      → PushesFrom worker (done ++ job ∷ []) old new
  pushes_more worker [] job old mid new same does =
      let here : worker + 0 ≡ worker = omega arith in (
        new,
        subst (λ (x : SeatView T × ℕ). Does (Broadcast x.1) (λ v w. HasPushed v job w) x.0 new)
            (λ i. (same i, here i)) does,
        refl,
      )
  pushes_more worker (x ∷ xs) job old mid new pushed does = (
    pushed.0,
    pushed.1,
    pushes_more (worker + 1) xs job pushed.0 mid new pushed.2
        (subst (λ n. Does (Broadcast n) (λ v w. HasPushed v job w) mid new) (omega arith) does),
  )

  -- one more job of a list was pushed
  pub pushes_on : (jobs done rest : List T) (worker : ℕ) (job : T) (old mid new : SeatView T)
      → jobs ≡ done ++ job ∷ rest → length done ≡ worker
      → length mid.broadcasts ≡ length old.broadcasts → PushesFrom 0 done old mid
      → Does (Broadcast worker) (λ v w. HasPushed v job w) mid new
      → (more : List T) × (jobs ≡ more ++ rest) × (length more ≡ worker + 1)
      × (length new.broadcasts ≡ length old.broadcasts) × PushesFrom 0 more old new
  pushes_on jobs done rest worker job old mid new split long same pushed does = (
    done ++ job ∷ [],
    split ∙ sym (append_assoc done (job ∷ []) rest),
    omega (arith, length-append done (job ∷ []), long),
    ap (λ (s : SeatView T). length s.broadcasts) does.2
        ∙ (length-set mid.broadcasts worker does.0 ∙ same),
    pushes_more 0 done job old mid new pushed
        (subst (λ n. Does (Broadcast n) (λ v w. HasPushed v job w) mid new)
        (omega (arith, long)) does),
  )
