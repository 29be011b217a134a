-- Places in which items wait for their calls, and the results that come to be there.
use Rattle.parallel_pool.proofs.Common.{◌≡◌, ℕ, zero, suc, ◌+◌, ◌-◌, ◌<◌, List, [], ◌∷◌, ◌++◌, map, length, get_or, take, take_all, Option, Some, None, refl, sym, ap, subst, ◌∙◌, arith}
use Rattle.std.proofs.lemmas.List.{length-map, take-append-le}
use Rattle.std.proofs.Common.{drop}
use Rattle.std.proofs.lemmas.List.Elements.{filter_map-append}
use denote.Param.Members.{Shared}
use Rattle.std.specs.List.{cons_option, filter_map}
use Rattle.std.specs.Fn.{FnReturns}
use Rattle.std.specs.Fork.{GivesJob, AcceptsJobs}
use Rattle.parallel_pool.specs.declared.rayon.in_row.Place.{Place}
use Rattle.parallel_pool.specs.InRow.{AcceptsPlace, AcceptsPlaces, AnswersPlaces, answer_of, waits}

-- ---- the results in the places

-- the results in the places so far, with one more place
pub one_more_answer : {X T : Type 0} (ps : List (Place X T)) (p : Place X T) (old new : List T)
    → old ≡ filter_map answer_of ps → new ≡ old ++ cons_option p.answer []
    → new ≡ filter_map answer_of (ps ++ p ∷ [])
one_more_answer ps p old new so_far grown =
    grown ∙ (ap (λ ts. ts ++ cons_option p.answer []) so_far
    ∙ sym (filter_map-append answer_of ps (p ∷ [])))

-- as many as the list has
first_written : {X : Type 0} (n : ℕ) (xs ys : List X) → length xs ≡ n → take n (xs ++ ys) ≡ xs
first_written n xs ys is =
    take-append-le n xs ys (omega (arith, is)) ∙ take_all n xs (omega (arith, is))

-- what an option holds, or else that
abbrev held_or : {X : Type 0} → X → Option X → X
held_or d None = d
held_or d (Some x) = x

module _ {F X T : Type 0} (g : Shared F (X × Unit {0}) T) (f : F) where
  first_given : (x : X) (xs : List X) (t : T) (ts : List T) → FnReturns g f (x, tt) t
      → ((i : ℕ) (d : T) → i < length xs → GivesJob g f xs i (get_or ts i d))
      → (i : ℕ) (d : T) → i < length (x ∷ xs) → GivesJob g f (x ∷ xs) i (get_or (t ∷ ts) i d)
  first_given x xs t ts call others zero d h =
      record { job = x; job_read = refl; job_is = λ e. refl; call = call }
  first_given x xs t ts call others (suc i) d h =
      let one = others i d (omega (arith, h)) in
      record {
        job = one.job;
        job_read = one.job_read;
        job_is = one.job_is;
        call = one.call;
      }

  -- where each place has its result, the results are those of the items
  pub all_answered : (items : List X) (olds ps : List (Place X T)) → olds ≡ map waits items
      → length ps ≡ length olds → AnswersPlaces g f olds ps
      → (length (filter_map answer_of ps) ≡ length items)
      × ((i : ℕ) (d : T) → i < length items
      → GivesJob g f items i (get_or (filter_map answer_of ps) i d))
  all_answered [] olds [] waited same are = (refl, λ i d h. absurd (omega (arith, h)))
  all_answered [] olds (p ∷ ps) waited same are = absurd (omega (arith, same, ap length waited))
  all_answered (x ∷ xs) olds [] waited same are = absurd (omega (arith, same, ap length waited))
  all_answered (x ∷ xs) olds (p ∷ ps) waited same are =
      let now = subst (λ os. AnswersPlaces g f os (p ∷ ps)) waited are in
      let first = now.each 0 p (omega arith) x refl in
      let rest = all_answered xs (map waits xs) ps refl (omega (arith, same, ap length waited))
      (record { each = λ i d h. now.each (suc i) d (omega (arith, h)) }) in
      subst
      (λ o. (length (cons_option o (filter_map answer_of ps)) ≡ length (x ∷ xs)) × ((i : ℕ) (d : T)
      → i < length (x ∷ xs)
      → GivesJob g f (x ∷ xs) i (get_or (cons_option o (filter_map answer_of ps)) i d)))
      (sym first.1)
      (omega (arith, rest.0), first_given x xs first.0 (filter_map answer_of ps) first.2 rest.1)

  -- the same of a list that has the results in the places, which are the first n of a block
  pub answered : (items : List X) (ts : List T) (olds block ps : List (Place X T)) (n : ℕ)
      → olds ≡ map waits items → length ps ≡ length olds → length olds ≡ n
      → AnswersPlaces g f olds ps
      → ts ≡ filter_map answer_of (take n (ps ++ drop (length ps) block))
      → (length ts ≡ length items)
      × ((i : ℕ) (d : T) → i < length items → GivesJob g f items i (get_or ts i d))
  answered items ts olds block ps n waited same len are is =
      subst
      (λ us. (length us ≡ length items)
      × ((i : ℕ) (d : T) → i < length items → GivesJob g f items i (get_or us i d)))
      (sym (is ∙ ap (filter_map answer_of)
      (first_written n ps (drop (length ps) block) (same ∙ len))))
      (all_answered items olds ps waited same are)

  waits_accepted : (items : List X) → AcceptsJobs g f items → (i : ℕ) (p : Place X T)
      → i < length items → p ≡ get_or (map waits items) i p → AcceptsPlace g f p
  waits_accepted [] each i p h is x item = absurd (omega (arith, h))
  waits_accepted (y ∷ ys) each zero p h is x item =
      subst (λ z. g.pre f (z, tt)) (ap (held_or y) (sym (ap (λ (q : Place X T). q.item) is) ∙ item))
      (each 0 y (omega arith) refl)
  waits_accepted (y ∷ ys) each (suc i) p h is x item =
      waits_accepted ys (λ j z l e. each (suc j) z (omega (arith, l)) e) i p
      (omega (arith, h)) is x item

  -- items that f takes may wait in the places
  pub waiting_accepted : (items : List X) (ps : List (Place X T)) → ps ≡ map waits items
      → AcceptsJobs g f items → AcceptsPlaces g f ps
  waiting_accepted items ps waited each i p h is =
      waits_accepted items each i p
      (omega (arith, h, ap length waited, length-map items (waits {T = T})))
      (is ∙ ap (λ qs. get_or qs i p) waited)
