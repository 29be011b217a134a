-- What is kept at the places are the first items of the runs.
use Rattle.std.proofs.Common.{◌≡◌, ℕ, ◌+◌, ◌-◌, arith, Bool, true, false, cond, List, [], ◌∷◌, ◌++◌, Option, Some, None, Bor, length, map, get_or, append_assoc, length-append, refl, sym, ◌∙◌}
use Rattle.std.proofs.Common.{ap, subst, rules}
use Rattle.std.specs.Cmp.{IsPartialEquivalence, per_alike}
use Rattle.std.specs.List.{dedup, dedup_from, range_with_len}
use Rattle.std.proofs.Math.Seq.{get_or-append_seam}
use Rattle.std.proofs.lemmas.Bool.{cond-true, cond-false}
use Rattle.parallel_bridge.specs.Lists.{MapOf}
use Rattle.parallel_calls.specs.Filters.{ValuesOf, somes}
use Rattle.parallel_calls.specs.Functions.{GoesByPair}
use Rattle.parallel_calls.specs.Neighbours.{HoldsAtNext}
use Rattle.parallel_calls.specs.Runs.{DedupAfter, DedupOf, KeptAt, RepeatsAt, dedup_after, dedup_of}
use Rattle.std.specs.Fn.{FnReturnsAtPair}
use Rattle.std.proofs.lemmas.Result.{IfOk-weaker}
use Rattle.parallel_calls.proofs.FilteredItems.{values_weaker}
use Rattle.parallel_calls.proofs.on.On.dedup_by.Goals as goal

-- what borrows are of
abbrev shown : {X : Type 0} → List (Bor X) → List X
shown {X = X} kept = map (λ (item : Bor X). item.now) kept

-- the item after a front and another item
item_after : {X : Type 0} (all front : List X) (before x : X) (xs : List X)
    → all ≡ front ++ (before ∷ (x ∷ xs)) → (d : X) → get_or all (length front + 1) d ≡ x
item_after all front before x xs split d =
    let long : length (front ++ (before ∷ [])) ≡ length front + 1 =
    length-append front (before ∷ []) in
    ap (λ l. get_or l (length front + 1) d)
    (split ∙ sym (append_assoc front (before ∷ []) (x ∷ xs)))
    ∙ subst (λ n. get_or ((front ++ (before ∷ [])) ++ (x ∷ xs)) n d ≡ x) long
    (get_or-append_seam (front ++ (before ∷ [])) x xs d)

module _ {X : Type 0} (E : X → X → Bool → Type 0) (all : List X) where
  -- what was asked at such an item's place was asked of the two items
  asked_of_two : (front : List X) (before x : X) (xs : List X)
      → all ≡ front ++ (before ∷ (x ∷ xs)) → (same : Bool)
      → RepeatsAt E all (length front + 1) same → E before x same
  asked_of_two front before x xs split same h =
      let one : get_or all (length front) before ≡ before =
      ap (λ l. get_or l (length front) before) split
      ∙ get_or-append_seam front before (x ∷ xs) before in
      let other = item_after all front before x xs split before in
      let at : length front + 1 - 1 ≡ length front = omega arith in
      subst (λ (p : X × X). E p.0 p.1 same) (λ i. (one i, other i))
      (subst (λ n. HoldsAtNext E all n same) at (h.1 (omega arith)) before)

  kept_after : (front : List X) (before : X) (xs : List X) (answers : List (Option (Bor X)))
      → all ≡ front ++ (before ∷ xs)
      → MapOf (KeptAt E all) (range_with_len (length front + 1) (length xs)) answers
      → DedupAfter E before xs (shown (somes answers))
  kept_after front before [] [] split each = refl
  kept_after front before [] (o ∷ answers) split each = absurd each
  kept_after front before (x ∷ xs) [] split each = absurd each
  kept_after front before (x ∷ xs) (None ∷ answers) split each = (
    true,
    shown (somes answers),
    asked_of_two front before x xs split true each.0,
    kept_after (front ++ (before ∷ [])) x xs answers
        (split ∙ sym (append_assoc front (before ∷ []) (x ∷ xs)))
        (subst (λ n. MapOf (KeptAt E all) (range_with_len (n + 1) (length xs)) answers)
        (sym (length-append front (before ∷ []))) each.1),
    refl,
  )
  kept_after front before (x ∷ xs) (Some y ∷ answers) split each = (
    false,
    shown (somes answers),
    asked_of_two front before x xs split false each.0.1,
    kept_after (front ++ (before ∷ [])) x xs answers
        (split ∙ sym (append_assoc front (before ∷ []) (x ∷ xs)))
        (subst (λ n. MapOf (KeptAt E all) (range_with_len (n + 1) (length xs)) answers)
        (sym (length-append front (before ∷ []))) each.1),
    ap (λ z. z ∷ shown (somes answers))
        (each.0.0 ∙ item_after all front before x xs split y.now),
  )

module _ {X : Type 0} (E : X → X → Bool → Type 0) where
  -- from the first place on
  kept_of_all : (xs : List X) (answers : List (Option (Bor X)))
      → MapOf (KeptAt E xs) (range_with_len 0 (length xs)) answers
      → DedupOf E xs (shown (somes answers))
  kept_of_all [] [] each = refl
  kept_of_all [] (o ∷ answers) each = absurd each
  kept_of_all (x ∷ xs) [] each = absurd each
  kept_of_all (x ∷ xs) (None ∷ answers) each =
      let first : true ≡ false = each.0.0 refl in absurd cc
  kept_of_all (x ∷ xs) (Some y ∷ answers) each = (
    shown (somes answers),
    kept_after E (x ∷ xs) [] x xs answers refl each.1,
    ap (λ z. z ∷ shown (somes answers)) each.0.0,
  )

  -- of the values at the places that came
  runs_of_places : (xs : List X) (places : List ℕ) (n : ℕ) (kept : List (Bor X))
      → ValuesOf (KeptAt E xs) places kept → places ≡ range_with_len 0 n → n ≡ length xs
      → DedupOf E xs (shown kept)
  runs_of_places xs places n kept (answers, each, is) come long =
      subst (λ l. DedupOf E xs (shown l)) (sym is) (kept_of_all xs answers
      (subst (λ l. MapOf (KeptAt E xs) l answers) (come ∙ ap (range_with_len 0) long) each))

  -- of verdicts that go by a function
  module _ (f : X → X → Bool) (goes : GoesByPair E f) where
    plain_after : (before : X) (xs ys : List X) → DedupAfter E before xs ys
        → ys ≡ dedup_after f before xs
    plain_after before [] ys h = h
    plain_after before (x ∷ xs) ys (same, rest, said, h, is) =
        is ∙ ap (λ l. cond same l (x ∷ l)) (plain_after x xs rest h)
        ∙ ap (λ b. cond b (dedup_after f x xs) (x ∷ dedup_after f x xs)) (goes before x same said)

    plain_runs : (xs ys : List X) → DedupOf E xs ys → ys ≡ dedup_of f xs
    plain_runs [] ys h = h
    plain_runs (x ∷ xs) ys (rest, h, is) = is ∙ ap (λ l. x ∷ l) (plain_after x xs rest h)

-- where a function is symmetric and transitive, the last item that stayed answers for the one before
module _ {X : Type 0} (f : X → X → Bool) (laws : IsPartialEquivalence f) where
  next_item : (k before x : X) (xs : List X) (same : Bool) → f before x ≡ same → f x k ≡ same
      → (same ≡ true → k ∷ dedup_after f x xs ≡ dedup_from f k xs)
      → x ∷ dedup_after f x xs ≡ dedup_from f x xs
      → k ∷ dedup_after f before (x ∷ xs) ≡ dedup_from f k (x ∷ xs)
  next_item k before x xs true one other goes_on begins =
      ap (λ l. k ∷ l) (cond-true (f before x) (dedup_after f x xs) (x ∷ dedup_after f x xs) one)
      ∙ goes_on refl
      ∙ sym (cond-true (f x k) (dedup_from f k xs) (k ∷ dedup_from f x xs) other)
  next_item k before x xs false one other goes_on begins =
      ap (λ l. k ∷ l) (cond-false (f before x) (dedup_after f x xs) (x ∷ dedup_after f x xs) one)
      ∙ ap (λ l. k ∷ l) begins
      ∙ sym (cond-false (f x k) (dedup_from f k xs) (k ∷ dedup_from f x xs) other)

  alike_after : (k before : X) (xs : List X) → ((z : X) → f k z ≡ f before z)
      → k ∷ dedup_after f before xs ≡ dedup_from f k xs
  alike_after k before [] alike = refl
  alike_after k before (x ∷ xs) alike =
      next_item k before x xs (f before x) refl (laws.symm x k ∙ alike x)
      (λ same. alike_after k x xs (λ z. alike z ∙ per_alike laws before x z same))
      (alike_after x x xs (λ z. refl))

  runs_deduped : (xs : List X) → dedup_of f xs ≡ dedup f xs
  runs_deduped [] = refl
  runs_deduped (x ∷ xs) = alike_after x x xs (λ z. refl)

pub returns-clause-kept : goal.returns-clause-kept
returns-clause-kept g c = IfOk-weaker c.filter_map.result _ _ (λ kept w. runs_of_places
    (λ x y b. FnReturnsAtPair g.F.Fn c.args.same x y b) c.args.items.now w.0
    (length c.args.items.now - 0) kept.items (values_weaker _
    (KeptAt (λ x y b. FnReturnsAtPair g.F.Fn c.args.same x y b) c.args.items.now)
    (λ k o h. search rules) w.0 kept.items w.2) (search rules) (search rules))
    c.filter_map.ensures.values

pub returns-clause-plain : goal.returns-clause-plain
returns-clause-plain g c f goes = IfOk-weaker c.filter_map.result _ _ (λ kept h. plain_runs
    (λ x y b. FnReturnsAtPair g.F.Fn c.args.same x y b) f goes c.args.items.now _ h)
    (returns-clause-kept g c)

pub returns-clause-deduped : goal.returns-clause-deduped
returns-clause-deduped g c f goes laws = IfOk-weaker c.filter_map.result _ _
    (λ kept h. h ∙ runs_deduped f laws c.args.items.now) (returns-clause-plain g c f goes)
