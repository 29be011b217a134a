-- What a chain of `into_iter`, `map` and `collect` gives, where the closure has a relation only.
use Rattle.parallel_bridge.proofs.Common.{◌≡◌, List, [], ◌∷◌, ◌++◌, refl, Option, None, Some, sym, subst, ◌∙◌, All, All-contains, AllZip, Contains-push, Yields, Drains, DrainsIf}
use Rattle.parallel_bridge.proofs.Common.{HoldsAlong, CallableAtEachTurn, map_source, map_callee, serves_by}
use Rattle.std.specs.declared.iter.Map.{Map}

module _ {S A B F : Type 0} (steps : S → Option A → S → Type 0)
    (mapped : Map S F → Option B → Map S F → Type 0) (allowed : F → A → B → Type 0)
    (gives : (s t : Map S F) (y : B) → mapped s (Some y) t → (x : A)
    × steps (map_source s) (Some x) (map_source t) × allowed (map_callee s) x y
    × (map_callee t ≡ map_callee s)) (ends : (s t : Map S F) → mapped s None t
    → steps (map_source s) None (map_source t)) where
  -- what a mapped iterator gave until its end is allowed for the items that its source gave
  pub mapped_as_they_come : (f : F) (s : Map S F) (ys : List B) → map_callee s ≡ f
      → DrainsIf mapped (Unit {0}) s ys → (xs : List A) × Drains steps (map_source s) xs
      × AllZip (allowed f) xs ys
  mapped_as_they_come f s [] same (t, gave, end) =
      let e = end tt in (
        [],
        (
          map_source e.0,
          (
            map_source s,
            refl,
            subst (λ v. steps (map_source v) None (map_source e.0)) (sym gave) (ends t e.0 e.1),
          ),
        ),
        tt,
      )
  mapped_as_they_come f s (y ∷ ys) same (t, (j, step, rest), end) =
      let one = gives s j y step in
      let more = mapped_as_they_come f j ys (one.3 ∙ same) (t, rest, end) in (
        one.0 ∷ more.0,
        (more.1.0, (more.1.1.0, (map_source j, one.1, more.1.1.1), more.1.1.2)),
        (subst (λ v. allowed v one.0 y) same one.2, more.2),
      )

-- the same, where the source is named through an equation
pub mapped_from : {S A B F : Type 0} (steps : S → Option A → S → Type 0)
    (mapped : Map S F → Option B → Map S F → Type 0) (f : F) (start : S) (s : Map S F) (ys : List B)
    → map_callee s ≡ f → map_source s ≡ start → DrainsIf mapped (Unit {0}) s ys
    → (allowed : F → A → B → Type 0)
    → ((s t : Map S F) (y : B) → mapped s (Some y) t → (x : A)
    × steps (map_source s) (Some x) (map_source t) × allowed (map_callee s) x y
    × (map_callee t ≡ map_callee s))
    → ((s t : Map S F) → mapped s None t → steps (map_source s) None (map_source t)) → (xs : List A)
    × Drains steps start xs × AllZip (allowed f) xs ys
mapped_from {A = A} steps mapped f start s ys same from gave allowed gives ends = subst
    (λ v. (xs : List A) × Drains steps v xs × AllZip (allowed f) xs ys) from
    (mapped_as_they_come steps mapped allowed gives ends f s ys same gave)

-- one call more at the end of calls
pub yields_push : {S A : Type 0} (steps : S → Option A → S → Type 0) (s : S) (xs : List A) (t : S)
    (x : A) (u : S) → Yields steps s xs t → steps t (Some x) u → Yields steps s (xs ++ (x ∷ [])) u
yields_push steps s [] t x u led step = (u, subst (λ v. steps v (Some x) u) (sym led) step, refl)
yields_push steps s (y ∷ ys) t x u (j, first, led) step =
    (j, first, yields_push steps j ys t x u led step)

-- what holds of all that comes holds of the next item
pub next_has : {S A : Type 0} (steps : S → Option A → S → Type 0) (K : A → Type 0) (s t u : S)
    (xs : List A) (x : A) → HoldsAlong steps s (All K) → Yields steps s xs t → steps t (Some x) u
    → K x
next_has steps K s t u xs x along led step =
    All-contains K (xs ++ x ∷ []) x (along (xs ++ x ∷ []) u (yields_push steps s xs t x u led step))
    (Contains-push xs x)

-- a closure that its calls leave as it was may be called at each turn, where the items that come
-- have what it asks
pub serves_along : {S A P : Type 0} {steps : S → Option A → S → Type 0} {R : P → A → P → Type 0}
    {Q : P → A → Type 0} {s : S} {p : P} (K : A → Type 0) → HoldsAlong steps s (All K)
    → ((x : A) (q : P) → R p x q → q ≡ p) → ((x : A) → K x → Q p x)
    → CallableAtEachTurn steps R Q s p
serves_along {steps = steps} {R = R} {Q = Q} {s = s} {p = p} K along same asks =
    serves_by R (λ _ q. q ≡ p) (λ xs q x v e r. same x v (subst (λ w. R w x v) e r)) steps Q s p
    refl (λ xs t q x u led step e. subst (λ w. Q w x) (sym e)
    (asks x (next_has steps K s t u xs x along led step)))
