-- What the first item at which a step stops says of the list.
use Rattle.std.proofs.Common.{◌≡◌, ℕ, ◌+◌, List, [], ◌∷◌, ◌++◌, Option, Some, None, Result, Ok, Err, Bool, true, false, not, length, Vec, Global, IfOk}
use Rattle.std.proofs.Common.{refl, sym, ◌∙◌, ap, subst, arith, length-append}
use Rattle.std.specs.Prelude.{◌||◌, ◌&&◌, nat_lt, ⊤}
use Rattle.std.specs.Option.{is_some, option_or}
use Rattle.std.specs.List.{All, find, list_all, list_any, position, position_or_len}
use Rattle.std.proofs.lemmas.List.Elements.{All-head, All-tail, All-weaker}
use Rattle.std.proofs.lemmas.Bool.{cond-true, cond-false, false≢true, lt-ltb, le-ltb, or_left, or_from, and_left, and_from}
use Rattle.parallel_fault.specs.Trouble.{IsStop}
use Rattle.parallel_fault.specs.declared.fault.Fault.{Fault}
use Rattle.parallel_fault.specs.declared.fault.Trouble.{Trouble}
use Rattle.parallel_fault.specs.declared.fault.Trouble.TheVariants.{Closure}
use Rattle.parallel_fault.specs.declared.fault.Trouble.TheVariants.{Fault as OfFault}
use Rattle.parallel_bridge.specs.Outcomes.{UnlessRefused, listed}
use Rattle.parallel_bridge.specs.Tries.{TryMapOf}
use Rattle.parallel_bridge.proofs.Firsts.{first_judged, first_weaker}
use Rattle.parallel_calls.specs.Firsts.{StopsAt, FirstOf, FirstPlaceOf, FirstValueOf, find_map}
use Rattle.parallel_calls.specs.Functions.{GoesBy}
use Rattle.parallel_calls.specs.Verdicts.{AllOf, AnyOf, LooksFor, LooksForValue, StopsUnless}

-- what stopped a fallible map without results is what its first failing item stopped with
module _ {X E : Type 0} (gives : List X → Type 0) (allowed : X → Result ⊤ E → Type 0) where
  abbrev Stops : Result (Option E) Fault → Type 0
  Stops result = IfOk result (λ stop. (xs : List X) × gives xs × StopsAt allowed xs stop)

  pub stop_of_map : (told : Result (Vec ⊤ Global) (Trouble E)) (result : Result (Option E) Fault)
      → UnlessRefused told (λ out. (xs : List X) × gives xs × TryMapOf allowed xs (listed out))
      → IsStop told result → Stops result
  stop_of_map (Ok ys) result (xs, came, each) is = subst Stops (sym is) (
    xs,
    came,
    record {
      stops = first_judged allowed (λ x. allowed x (Ok tt)) (λ e x. allowed x (Err e))
          (λ x y h. h) (λ x e h. h) xs (Ok ys.items) each;
    },
  )
  stop_of_map (Err (Closure e)) result (xs, came, failed) is = subst Stops (sym is) (
    xs,
    came,
    record {
      stops = first_judged allowed (λ x. allowed x (Ok tt)) (λ e' x. allowed x (Err e'))
          (λ x y h. h) (λ x e' h. h) xs (Err e) failed;
    },
  )
  stop_of_map (Err (OfFault f)) result told is = subst Stops (sym is) tt

module _ {X : Type 0} (verdict : X → Bool → Type 0) (allowed : X → Result ⊤ X → Type 0)
    (looks : (x : X) (out : Result ⊤ X) → allowed x out → LooksFor verdict x out) where
  -- a step that stops with its item
  pub first_of : (xs : List X) (stop : Option X) → StopsAt allowed xs stop → FirstOf verdict xs stop
  first_of xs None each = All-weaker (λ x. allowed x (Ok tt)) (λ x. verdict x false)
      (λ x h. looks x (Ok tt) h) xs each.stops
  first_of xs (Some e) first =
      let (x, place, at_first) = first.stops in
      let (before, after, split, fails, holds, at) =
      first_weaker (λ y. allowed y (Err e)) (λ y. allowed y (Ok tt))
      (λ y. (e ≡ y) × verdict y true) (λ y. verdict y false) (λ y h. looks y (Err e) h)
      (λ y h. looks y (Ok tt) h) xs x place at_first in (
        place,
        (
          before,
          after,
          split ∙ ap (λ y. before ++ (y ∷ after)) (sym holds.0),
          fails,
          subst (λ y. verdict y true) (sym holds.0) holds.1,
          at,
        ),
      )

module _ {X Y : Type 0} (gives : X → Option Y → Type 0) (allowed : X → Result ⊤ Y → Type 0)
    (looks : (x : X) (out : Result ⊤ Y) → allowed x out → LooksForValue gives x out) where
  -- a step that stops with its value
  pub first_value_of : (xs : List X) (stop : Option Y) → StopsAt allowed xs stop
      → FirstValueOf gives xs stop
  first_value_of xs None each = All-weaker (λ x. allowed x (Ok tt)) (λ x. gives x None)
      (λ x h. looks x (Ok tt) h) xs each.stops
  first_value_of xs (Some e) first =
      let (x, place, at_first) = first.stops in (
        x,
        place,
        first_weaker (λ y. allowed y (Err e)) (λ y. allowed y (Ok tt)) (λ y. gives y (Some e))
            (λ y. gives y None) (λ y h. looks y (Err e) h) (λ y h. looks y (Ok tt) h) xs x place
            at_first,
      )

module _ {X : Type 0} (verdict : X → Bool → Type 0) (allowed : X → Result ⊤ ⊤ → Type 0) where
  -- a step that stops where an item may satisfy
  pub any_of : ((x : X) (out : Result ⊤ ⊤) → allowed x out → StopsUnless false verdict x out)
      → (xs : List X) (stop : Option ⊤) (found : Bool) → found ≡ is_some stop
      → StopsAt allowed xs stop → AnyOf verdict xs found
  any_of says xs None found is each = subst (AnyOf verdict xs) (sym is)
      (All-weaker (λ x. allowed x (Ok tt)) (λ x. verdict x false) (λ x h. says x (Ok tt) h) xs
      each.stops)
  any_of says xs (Some e) found is first =
      let (x, place, at_first) = first.stops in
      subst (AnyOf verdict xs) (sym is) (
        x,
        (
          place,
          first_weaker (λ y. allowed y (Err e)) (λ y. allowed y (Ok tt)) (λ y. verdict y true)
              (λ y. verdict y false) (λ y h. says y (Err e) h) (λ y h. says y (Ok tt) h) xs x place
              at_first,
        ),
      )

  -- a step that stops where an item may fail
  pub all_of : ((x : X) (out : Result ⊤ ⊤) → allowed x out → StopsUnless true verdict x out)
      → (xs : List X) (stop : Option ⊤) (all : Bool) → is_some stop ≡ not all
      → StopsAt allowed xs stop → AllOf verdict xs all
  all_of says xs None false is each = absurd (false≢true is)
  all_of says xs None true is each =
      All-weaker (λ x. allowed x (Ok tt)) (λ x. verdict x true) (λ x h. says x (Ok tt) h) xs
      each.stops
  all_of says xs (Some e) true is first = absurd (false≢true (sym is))
  all_of says xs (Some e) false is first =
      let (x, place, at_first) = first.stops in (
        x,
        place,
        first_weaker (λ y. allowed y (Err e)) (λ y. allowed y (Ok tt)) (λ y. verdict y false)
            (λ y. verdict y true) (λ y h. says y (Err e) h) (λ y h. says y (Ok tt) h) xs x place
            at_first,
      )

-- where the verdicts go by a function
module _ {X : Type 0} (verdict : X → Bool → Type 0) (passes : X → Bool)
    (goes : GoesBy verdict passes) where
  found_none : (xs : List X) → All (λ x. verdict x false) xs → find passes xs ≡ None
  found_none [] each = refl
  found_none (x ∷ xs) each =
      cond-false (passes x) (Some x) (find passes xs)
      (sym (goes x false (All-head (λ y. verdict y false) x xs each)))
      ∙ found_none xs (All-tail (λ y. verdict y false) x xs each)

  found_after : (before : List X) (x : X) (after : List X) → All (λ y. verdict y false) before
      → verdict x true → find passes (before ++ (x ∷ after)) ≡ Some x
  found_after [] x after fails holds =
      cond-true (passes x) (Some x) (find passes after) (sym (goes x true holds))
  found_after (y ∷ before) x after fails holds =
      cond-false (passes y) (Some y) (find passes (before ++ (x ∷ after)))
      (sym (goes y false (All-head (λ z. verdict z false) y before fails)))
      ∙ found_after before x after (All-tail (λ z. verdict z false) y before fails) holds

  pub plain_first : (xs : List X) (found : Option X) → FirstOf verdict xs found
      → found ≡ find passes xs
  plain_first xs None each = sym (found_none xs each)
  plain_first xs (Some x) (place, (before, after, split, fails, holds, at)) =
      sym (ap (find passes) split ∙ found_after before x after fails holds)

  any_none : (xs : List X) → All (λ x. verdict x false) xs → list_any passes xs ≡ false
  any_none [] each = refl
  any_none (x ∷ xs) each = or_from (passes x) (list_any passes xs)
      (sym (goes x false (All-head (λ y. verdict y false) x xs each)))
      (any_none xs (All-tail (λ y. verdict y false) x xs each))

  any_after : (before : List X) (x : X) (after : List X) → All (λ y. verdict y false) before
      → verdict x true → list_any passes (before ++ (x ∷ after)) ≡ true
  any_after [] x after fails holds =
      or_left (passes x) (list_any passes after) (sym (goes x true holds))
  any_after (y ∷ before) x after fails holds =
      ap (λ b. b || list_any passes (before ++ (x ∷ after)))
      (sym (goes y false (All-head (λ z. verdict z false) y before fails)))
      ∙ any_after before x after (All-tail (λ z. verdict z false) y before fails) holds

  pub plain_any : (xs : List X) (found : Bool) → AnyOf verdict xs found
      → found ≡ list_any passes xs
  plain_any xs false each = sym (any_none xs each)
  plain_any xs true (x, (place, (before, after, split, fails, holds, at))) =
      sym (ap (list_any passes) split ∙ any_after before x after fails holds)

  all_pass : (xs : List X) → All (λ x. verdict x true) xs → list_all passes xs ≡ true
  all_pass [] each = refl
  all_pass (x ∷ xs) each = and_from (passes x) (list_all passes xs)
      (sym (goes x true (All-head (λ y. verdict y true) x xs each)))
      (all_pass xs (All-tail (λ y. verdict y true) x xs each))

  all_until : (before : List X) (x : X) (after : List X) → All (λ y. verdict y true) before
      → verdict x false → list_all passes (before ++ (x ∷ after)) ≡ false
  all_until [] x after fails holds =
      and_left (passes x) (list_all passes after) (sym (goes x false holds))
  all_until (y ∷ before) x after fails holds =
      ap (λ b. b && list_all passes (before ++ (x ∷ after)))
      (sym (goes y true (All-head (λ z. verdict z true) y before fails)))
      ∙ all_until before x after (All-tail (λ z. verdict z true) y before fails) holds

  pub plain_all : (xs : List X) (all : Bool) → AllOf verdict xs all → all ≡ list_all passes xs
  plain_all xs true each = sym (all_pass xs each)
  plain_all xs false (x, place, (before, after, split, fails, holds, at)) =
      sym (ap (list_all passes) split ∙ all_until before x after fails holds)

  place_none : (xs : List X) → All (λ x. verdict x false) xs
      → position_or_len passes xs ≡ length xs
  place_none [] each = refl
  place_none (x ∷ xs) each =
      let rest = place_none xs (All-tail (λ y. verdict y false) x xs each) in
      let fails : not (passes x) ≡ true =
      ap not (sym (goes x false (All-head (λ y. verdict y false) x xs each))) in
      cond-true (not (passes x)) (1 + position_or_len passes xs) 0 fails
      ∙ omega (arith, rest)

  place_after : (before : List X) (x : X) (after : List X) → All (λ y. verdict y false) before
      → verdict x true → position_or_len passes (before ++ (x ∷ after)) ≡ length before
  place_after [] x after fails holds =
      cond-false (not (passes x)) (1 + position_or_len passes after) 0
      (ap not (sym (goes x true holds)))
  place_after (y ∷ before) x after fails holds =
      let rest =
      place_after before x after (All-tail (λ z. verdict z false) y before fails) holds in
      cond-true (not (passes y)) (1 + position_or_len passes (before ++ (x ∷ after))) 0
      (ap not (sym (goes y false (All-head (λ z. verdict z false) y before fails))))
      ∙ omega (arith, rest)

  pub plain_place : (xs : List X) (found : Option ℕ) → FirstPlaceOf verdict xs found
      → found ≡ position passes xs
  plain_place xs None each =
      let at = place_none xs each in
      sym (cond-false (nat_lt (position_or_len passes xs) (length xs))
      (Some (position_or_len passes xs)) None (le-ltb _ _ (omega (arith, at))))
  plain_place xs (Some place) (x, (before, after, split, fails, holds, at)) =
      let here : position_or_len passes xs ≡ length before =
      ap (position_or_len passes) split ∙ place_after before x after fails holds in
      let long : length xs ≡ length before + length (x ∷ after) =
      ap length split ∙ length-append before (x ∷ after) in
      sym (cond-true (nat_lt (position_or_len passes xs) (length xs))
      (Some (position_or_len passes xs)) None (lt-ltb _ _ (omega (arith, here, long)))
      ∙ ap (λ n. Some n) (here ∙ sym at))

module _ {X Y : Type 0} (gives : X → Option Y → Type 0) (f : X → Option Y)
    (goes : GoesBy gives f) where
  value_none : (xs : List X) → All (λ x. gives x None) xs → find_map f xs ≡ None
  value_none [] each = refl
  value_none (x ∷ xs) each =
      ap (λ o. option_or o (find_map f xs))
      (sym (goes x None (All-head (λ y. gives y None) x xs each)))
      ∙ value_none xs (All-tail (λ y. gives y None) x xs each)

  value_after : (before : List X) (x : X) (after : List X) (y : Y)
      → All (λ z. gives z None) before → gives x (Some y)
      → find_map f (before ++ (x ∷ after)) ≡ Some y
  value_after [] x after y fails holds =
      ap (λ o. option_or o (find_map f after)) (sym (goes x (Some y) holds))
  value_after (z ∷ before) x after y fails holds =
      ap (λ o. option_or o (find_map f (before ++ (x ∷ after))))
      (sym (goes z None (All-head (λ w. gives w None) z before fails)))
      ∙ value_after before x after y (All-tail (λ w. gives w None) z before fails) holds

  pub plain_value : (xs : List X) (found : Option Y) → FirstValueOf gives xs found
      → found ≡ find_map f xs
  plain_value xs None each = sym (value_none xs each)
  plain_value xs (Some y) (x, place, (before, after, split, fails, holds, at)) =
      sym (ap (find_map f) split ∙ value_after before x after y fails holds)
