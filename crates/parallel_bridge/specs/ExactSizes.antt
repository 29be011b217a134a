-- Iterators that give just as many items as they say, and why those of std do.
use Rattle.std.specs.Prelude.{◌≡◌, ◌≤◌, ◌-◌, ◌⊎◌, ℕ, Bool, true, false, cond, T, List, [], ◌∷◌, Option, None, Some, length, min}
use Rattle.std.specs.Borrow.{Bor}
use Rattle.std.specs.Iterator.{AlwaysYields, Count, Drains, IsFinite, Yields, count_min, size}
use Rattle.std.specs.List.{range_with_len}
use Rattle.std.specs.declared.ops.Range.{Range}
use Rattle.std.proofs.lemmas.List.FromFn.{length-range_with_len}
use Rattle.std.specs.Iterator.Adapters.{copied_source, copied_steps, zip_first, zip_second, zip_steps}
use Rattle.std.proofs.Common.{arith, refl, sym, subst, ap, ◌∙◌, inl, inr, suc, is_some}
use Rattle.std.proofs.lemmas.Bool.{false≢true}
use Rattle.std.proofs.lemmas.Iterator.{YieldsList, items_from_drains}
use Rattle.std.proofs.lemmas.List.{length-map}

-- no run of calls gives more than n items, and each that came to its end gave n
abbrev pub GivesExactly : {S A : Type 0} → (S → Option A → S → Type 0) → S → ℕ → Type 0
GivesExactly {S = S} {A = A} steps s n = ((xs : List A) (t : S) → Yields steps s xs t → length xs ≤ n)
    × ((xs : List A) → Drains steps s xs → length xs ≡ n)

module _ {S A B : Type 0} (steps : S → Option A → S → Type 0) (v : A → B) where
  within : (xs : List A) (all : List B) (s t : S) → AlwaysYields steps v s all → Yields steps s xs t
      → length xs ≤ length all
  within [] all s t road led = omega arith
  within (x ∷ xs) [] s t road led = absurd (road x led.0 led.1)
  within (x ∷ xs) (y ∷ all) s t road led =
      let one = road.1 x led.0 led.1 in
      let more = within xs all led.0 t one.1 led.2 in
      omega (arith, more)

-- an iterator over a list gives as many items as the list has
pub exactly_listed : {S A B : Type 0} {steps : S → Option A → S → Type 0} {v : A → B} {s : S}
    (all : List B) → YieldsList steps v s all → GivesExactly steps s (length all)
exactly_listed {steps = steps} {v = v} {s = s} all road = (
  (λ xs t led. within steps v xs all s t road.runs led),
  λ xs (u, (t, gave, ends)). sym (length-map xs v)
      ∙ ap length (items_from_drains xs (t, gave, λ _. (u, ends)) road),
)

module _ {S A : Type 0} (steps : S → Option (Bor A) → S → Type 0) where
  lent : (xs : List A) (s t : _) → Yields (copied_steps steps) s xs t → (ys : List (Bor A))
      × Yields steps (copied_source s) ys (copied_source t) × (length ys ≡ length xs)
  lent [] s t same = ([], ap copied_source same, refl)
  lent (x ∷ xs) s t (j, (None, step, copy), rest) = absurd (false≢true (sym (ap is_some copy)))
  lent (x ∷ xs) s t (j, (Some y, step, copy), rest) =
      let more = lent xs j t rest in
      (y ∷ more.0, (copied_source j, step, more.1), ap suc more.2)

  ended : (s t : _) → copied_steps steps s None t → steps (copied_source s) None (copied_source t)
  ended s t (None, step, copy) = step
  ended s t (Some y, step, copy) = absurd (false≢true (ap is_some copy))

  -- copies of the items are as many
  pub exactly_copied : {s : _} (n : ℕ) → GivesExactly steps (copied_source s) n
      → GivesExactly (copied_steps steps) s n
  exactly_copied {s = s} n exact = (
    (λ xs t led. let r = lent xs s t led in
        subst (λ k. k ≤ n) r.2 (exact.0 r.0 (copied_source t) r.1)),
    λ xs (u, (t, gave, last)). let r = lent xs s t gave in
        sym r.2 ∙ exact.1 r.0 (copied_source u, (copied_source t, r.1, ended t u last)),
  )

lesser : (b e : Bool) (n m : ℕ) → T b → T e → cond b (cond e (min n m) n) m ≡ min n m
lesser true true n m one two = refl
lesser false e n m one two = absurd one
lesser true false n m one two = absurd two

module _ {S T A B : Type 0} (steps : S → Option A → S → Type 0)
    (others : T → Option B → T → Type 0) where
  sides : (zs : List (A × B)) (s t : _) → Yields (zip_steps steps others) s zs t
      → (xs : List A) × (ys : List B) × Yields steps (zip_first s) xs (zip_first t)
      × Yields others (zip_second s) ys (zip_second t) × (length xs ≡ length zs)
      × (length ys ≡ length zs)
  sides [] s t same = ([], [], ap zip_first same, ap zip_second same, refl, refl)
  sides (z ∷ zs) s t (j, (left, right), rest) =
      let more = sides zs j t rest in (
        z.0 ∷ more.0,
        z.1 ∷ more.1,
        (zip_first j, left, more.2),
        (zip_second j, right, more.3),
        ap suc more.4,
        ap suc more.5,
      )

  last_pair : (n m : ℕ) (s t : _) (zs : List (A × B)) → GivesExactly steps (zip_first s) n
      → GivesExactly others (zip_second s) m → Yields (zip_steps steps others) s zs t
      → ((u : S) × steps (zip_first t) None u) ⊎ ((u : T) × others (zip_second t) None u)
      → length zs ≡ min n m
  last_pair n m s t zs exact also gave (inl (u, step)) =
      let r = sides zs s t gave in
      let a = exact.1 r.0 (u, (zip_first t, r.2, step)) in
      let b = also.0 r.1 (zip_second t) r.3 in
      omega (arith, a, b, r.4, r.5)
  last_pair n m s t zs exact also gave (inr (u, step)) =
      let r = sides zs s t gave in
      let a = exact.0 r.0 (zip_first t) r.2 in
      let b = also.1 r.1 (u, (zip_second t, r.3, step)) in
      omega (arith, a, b, r.4, r.5)

  zipped : {s : _} (n m : ℕ) → GivesExactly steps (zip_first s) n
      → GivesExactly others (zip_second s) m → GivesExactly (zip_steps steps others) s (min n m)
  zipped {s = s} n m exact also = (
    (λ zs t led. let r = sides zs s t led in
        let a = exact.0 r.0 (zip_first t) r.2 in
        let b = also.0 r.1 (zip_second t) r.3 in
        omega (arith, a, b, r.4, r.5)),
    λ zs (u, (t, gave, last)). last_pair n m s t zs exact also gave last,
  )

  -- the pairs of two are as many as the lesser number
  pub exactly_zipped : {s : _} (c d : Count) → IsFinite c → IsFinite d
      → GivesExactly steps (zip_first s) (size c) → GivesExactly others (zip_second s) (size d)
      → GivesExactly (zip_steps steps others) s (size (count_min c d))
  exactly_zipped {s = s} c d ends also exact exact_too =
      subst (GivesExactly (zip_steps steps others) s)
      (sym (lesser c.bounded d.bounded c.bound d.bound ends also))
      (zipped {s = s} c.bound d.bound exact exact_too)

-- a number that is least of two ends where the first one does
pub ends_at_first : (c d : Count) → IsFinite c → IsFinite (count_min c d)
ends_at_first c d ends = first_of c.bounded d.bounded ends where
  first_of : (b e : Bool) → T b → T (cond b true e)
  first_of true e held = tt
  first_of false e held = absurd held

-- the indices of a range are as many as lie between its ends
pub exactly_ranged : {steps : Range ℕ → Option ℕ → Range ℕ → Type 0} (s : Range ℕ)
    → YieldsList steps (λ x. x) s (range_with_len s.start (s.end - s.start))
    → GivesExactly steps s (s.end - s.start)
exactly_ranged {steps = steps} s road =
    subst (GivesExactly steps s) (length-range_with_len s.start (s.end - s.start))
    (exactly_listed (range_with_len s.start (s.end - s.start)) road)
