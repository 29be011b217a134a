-- What a worker knows after it has taken or pushed a job, and how many it has called.
use Rattle.parallel_pool.proofs.Common.{◌≡◌, ℕ, ◌+◌, ◌<◌, true, List, [], ◌∷◌, ◌++◌, length, set, get_or, zero, suc, arith, refl, ap, subst, ◌∙◌, ⊎_elim, inl, inr, Option, Some, None, MatchOption}
use Rattle.parallel_pool.proofs.Common.{Deed, TakeFirst, TakeLast, Event, JobView, Queue, Injected, Broadcast, Deque, new_pass, event, HasTaken, SeatView, IsQueueOf, Does}
use Rattle.parallel_pool.specs.WorkerThread.{WorkerView, called_in, called_by, seat_calls, calls_of, with_own, with_jobs, CallsOwn, CallsFirst, CallsOne}

module _ {T : Type 0} where
  called-append : (xs ys : List (Event T)) → called_in (xs ++ ys) ≡ called_in xs + called_in ys
  called-append [] ys = omega arith
  called-append (x ∷ xs) ys = let h = called-append xs ys in omega (arith, h)

  -- a pass that took a job to call it has called one more
  one_more : (deed : Deed) (old : JobView T) (job : T) (new : JobView T)
      → HasTaken deed true old job new → called_in new.own ≡ called_in old.own + 1
  one_more deed old job new h =
      let e : Event T = event h.0 deed h.1 job true in
      let all : called_in new.own ≡ called_in (old.own ++ e ∷ []) = ap called_in h.2.own in
      let more : called_in (old.own ++ e ∷ []) ≡ called_in old.own + called_in (e ∷ []) =
      called-append old.own (e ∷ []) in
      let one : called_in (e ∷ []) ≡ 1 = refl in
      omega (arith, all, more, one)

  -- of several passes one has changed
  called_set : (l : List (JobView T)) (i : ℕ) (v : JobView T) → i < length l
      → called_by (set l i v) + called_in (get_or l i new_pass).own ≡ called_by l + called_in v.own
  called_set [] i v less = absurd (omega (arith, less))
  called_set (x ∷ xs) zero v less = omega arith
  called_set (x ∷ xs) (suc i) v less =
      let h = called_set xs i v (omega (arith, less)) in
      omega (arith, h)

  -- a seat that took a job to call it has called one more
  seat_more : (queue : Queue) (old : SeatView T) (job : T) (new : SeatView T) → IsQueueOf queue old
      → Does queue (λ v w. HasTaken TakeFirst true v job w) old new
      → seat_calls new ≡ seat_calls old + 1
  seat_more Injected old job new here does =
      let h = one_more TakeFirst _ job does.0 does.1 in
      let e = ap seat_calls does.2 in
      omega (arith, h, e)
  seat_more (Broadcast i) old job new here does =
      let h = one_more TakeFirst _ job does.0 does.1 in
      let s = called_set old.broadcasts i does.0 here in
      let e = ap seat_calls does.2 in
      omega (arith, h, s, e)
  seat_more (Deque i) old job new here does =
      let h = one_more TakeFirst _ job does.0 does.1 in
      let s = called_set old.deques i does.0 here in
      let e = ap seat_calls does.2 in
      omega (arith, h, s, e)

  -- a worker that took a job to call it has called one more
  pub calls_more : (old : WorkerView T) (job : T) (new : WorkerView T) → CallsOne old job new
      → calls_of new ≡ calls_of old + 1
  calls_more old job new calls = ⊎_elim
      (λ (h : CallsOwn old job new). let m = one_more TakeLast old.own job h.0 h.1 in let
      e : calls_of new ≡ calls_of (with_own h.0 old) = ap calls_of h.2 in omega (arith, m, e))
      (λ (h : CallsFirst old job new). let m = seat_more h.0 old.jobs job h.1 h.2 h.3 in let
      e : calls_of new ≡ calls_of (with_jobs h.1 old) = ap calls_of h.4 in omega (arith, m, e))
      calls

  -- what the worker's own deque is told of a take, for the whole worker
  pub after_pop : (inside now : WorkerView T) (own : JobView T) (r : Option T) → inside ≡ now
      → MatchOption r (own ≡ inside.own) (λ job. HasTaken TakeLast true inside.own job own)
      → MatchOption r (with_own own inside ≡ now) (λ job. CallsOne now job (with_own own inside))
  after_pop inside now own None same told = ap (λ x. with_own x inside) told ∙ same
  after_pop inside now own (Some job) same told = subst
      (λ (w : WorkerView T). CallsOne w job (with_own own inside)) same (inl (own, told, refl))

  -- and what its seat is told of one
  pub after_first : (queue : Queue) (inside now : WorkerView T) (jobs : SeatView T) (r : Option T)
      → inside ≡ now → IsQueueOf queue inside.jobs
      → MatchOption r (jobs ≡ inside.jobs)
      (λ job. Does queue (λ v w. HasTaken TakeFirst true v job w) inside.jobs jobs)
      → MatchOption r (with_jobs jobs inside ≡ now)
      (λ job. CallsOne now job (with_jobs jobs inside))
  after_first queue inside now jobs None same here told = ap (λ x. with_jobs x inside) told ∙ same
  after_first queue inside now jobs (Some job) same here told =
      subst (λ (w : WorkerView T). CallsOne w job (with_jobs jobs inside)) same
      (inr (queue, jobs, here, told, refl))
