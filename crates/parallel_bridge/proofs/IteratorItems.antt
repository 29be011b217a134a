-- Which list comes of an iterator, and which items may.
use Rattle.parallel_bridge.proofs.Common.{◌≡◌, List, [], ◌∷◌, ◌++◌, Option, None, Some, refl, sym, ap, ◌∙◌, subst, map, All, AllByRecursion, Contains, Yields, AlwaysYields, Drains, HoldsAlong, All-from_recursion}
use Rattle.parallel_bridge.proofs.Common.{recursion_from_All, All-contains_itself, All-contains, YieldsList, items_from_drains, map-id, Bor, MayCome}
use Rattle.parallel_bridge.proofs.CollectChains.{yields_push}
use Rattle.std.specs.Option.{IfSome}

-- what came of a run, as v reads it, is the list that every run gives
pub came : {S A B : Type 0} {steps : S → Option A → S → Type 0} {v : A → B} {s : S} {all : List B}
    (xs : List A) → Drains steps s xs → YieldsList steps v s all → map v xs ≡ all
came xs (u, (t, gave, ends)) road = items_from_drains xs (t, gave, λ _. (u, ends)) road

-- the same of a list that is read as it is
pub came_as_it_is : {S A : Type 0} {steps : S → Option A → S → Type 0} {s : S} {all : List A}
    (xs : List A) → Drains steps s xs → YieldsList steps (λ x. x) s all → xs ≡ all
came_as_it_is xs drains road = sym (map-id xs) ∙ came xs drains road

module _ {S A B : Type 0} (steps : S → Option A → S → Type 0) (v : A → B) (K : B → Type 0) where
  seen_of : (seen : List A) (all : List B) (s t : S) → AlwaysYields steps v s all
      → Yields steps s seen t → AllByRecursion K all → AllByRecursion (λ x. K (v x)) seen
  seen_of [] all s t road led each = tt
  seen_of (x ∷ seen) [] s t road led each = absurd (road x led.0 led.1)
  seen_of (x ∷ seen) (y ∷ all) s t road led each =
      let one = road.1 x led.0 led.1 in
      (subst K (sym one.0) each.0, seen_of seen all led.0 t one.1 led.2 each.1)

-- what is true of each item of the list that every run gives is true of what comes
pub each_that_comes : {S A B : Type 0} {steps : S → Option A → S → Type 0} {v : A → B} {s : S}
    {all : List B} (K : B → Type 0) → YieldsList steps v s all → All K all
    → HoldsAlong steps s (All (λ x. K (v x)))
each_that_comes {steps = steps} {v = v} {s = s} {all = all} K road each seen t led =
    All-from_recursion (λ x. K (v x)) seen
    (seen_of steps v K seen all s t road.runs led (recursion_from_All K all each))

-- what comes stands in that list
pub stands_in : {S A B : Type 0} {steps : S → Option A → S → Type 0} {v : A → B} {s : S}
    {all : List B} → YieldsList steps v s all → HoldsAlong steps s (All (λ x. Contains all (v x)))
stands_in {all = all} road = each_that_comes (Contains all) road (All-contains_itself all)

module _ {S A : Type 0} (steps : S → Option A → S → Type 0) (s : S) where
  may_each : (before : List A) (t : S) (xs : List A) (u : S) → Yields steps s before t
      → Yields steps t xs u → AllByRecursion (MayCome steps s) xs
  may_each before t [] u led rest = tt
  may_each before t (x ∷ xs) u led (j, step, rest) = (
    (before, t, j, led, step),
    may_each (before ++ (x ∷ [])) j xs u (yields_push steps s before t x j led step) rest,
  )

  -- each item that came may come
  pub may_along : HoldsAlong steps s (All (MayCome steps s))
  may_along xs t led = All-from_recursion (MayCome steps s) xs (may_each [] s xs t refl led)

  -- so may each item of a list that came
  pub may_of : (xs : List A) → Drains steps s xs → (x : A) → Contains xs x → MayCome steps s x
  may_of xs (u, (t, gave, ends)) x within =
      All-contains (MayCome steps s) xs x (may_along xs t gave) within

-- the item of one call of `next` may come, and so may those that may come after it
module _ {S A : Type 0} (steps : S → Option A → S → Type 0) (s t : S) where
  pub item_may_come : (out : Option A) → steps s out t → IfSome out (λ x. MayCome steps s x)
  item_may_come None h = tt
  item_may_come (Some x) h = ([], s, t, refl, h)

  pub others_may_come : (out : Option A) → steps s out t
      → IfSome out (λ x. (y : A) → MayCome steps t y → MayCome steps s y)
  others_may_come None h = tt
  others_may_come (Some x) h =
      λ y (before, u, v, led, step). (x ∷ before, u, v, (t, h, led), step)

-- a list of values may be borrowed
pub some_borrows : {T : Type 0} (ys : List T) → (xs : List (Bor T)) × (map (λ x. x.now) xs ≡ ys)
some_borrows [] = ([], refl)
some_borrows (y ∷ ys) =
    let rest = some_borrows ys in
    (record { ref_ptr = (0, 0); now = y } ∷ rest.0, ap (λ l. y ∷ l) rest.1)
