-- The step stops with the place of the first item that satisfies the test.
use Rattle.std.proofs.Common.{◌≡◌, ℕ, ◌-◌, List, Option, Some, None, Result, Ok, Err, Bool, true, false, length, subst, ◌∙◌, rules, sym}
use Rattle.std.specs.Prelude.{⊤}
use Rattle.std.specs.List.{enumerate_from, range_with_len}
use Rattle.std.proofs.lemmas.List.Elements.{All-weaker}
use Rattle.parallel_bridge.specs.Zips.{PairsOf}
use Rattle.parallel_bridge.proofs.Firsts.{came_numbered, first_numbered, first_weaker, numbered_all}
use Rattle.parallel_calls.specs.Firsts.{FirstPlaceOf, StopsAt}
use Rattle.parallel_calls.specs.Verdicts.{LooksForPlace}
use Rattle.std.proofs.lemmas.Result.{IfOk-weaker}
use Rattle.parallel_calls.proofs.FirstItems.{plain_place}
use Rattle.parallel_calls.proofs.on.On.position_first.Goals as goal

module _ {X : Type 0} (verdict : X → Bool → Type 0) (allowed : ℕ × X → Result ⊤ ℕ → Type 0)
    (looks : (z : ℕ × X) (out : Result ⊤ ℕ) → allowed z out → LooksForPlace verdict z out) where
  abbrev Fails : ℕ × X → Type 0
  Fails z = verdict z.1 false

  placed : (xs : List X) (stop : Option ℕ) → StopsAt allowed (enumerate_from 0 xs) stop
      → FirstPlaceOf verdict xs stop
  placed xs None each = numbered_all (λ _ x. verdict x true) (λ x. verdict x false) 0 xs
      (All-weaker (λ z. allowed z (Ok tt)) Fails (λ z h. looks z (Ok tt) h)
      (enumerate_from 0 xs) each.stops)
  placed xs (Some e) stopped =
      let (z, place, first) = stopped.stops in
      let here = first_numbered (λ n x. (e ≡ n) × verdict x true) (λ x. verdict x false) xs z place
      (first_weaker (λ w. allowed w (Err e)) (λ w. allowed w (Ok tt))
      (λ (w : ℕ × X). (e ≡ w.0) × verdict w.1 true) Fails (λ w h. looks w (Err e) h)
      (λ w h. looks w (Ok tt) h) (enumerate_from 0 xs) z place first) in
      let (before, after, split, fails, (same, holds), at) = here in
      (z.1, (before, after, split, fails, holds, same ∙ at))

  -- over a list whose length is known, as it was made and as the caller has it
  first_place_of : {L : Type 0} (gives : L → List X → Type 0) (made list : L)
      (start end n : ℕ) → made ≡ list → start ≡ 0 → end ≡ n
      → ((xs : List X) → gives list xs → length xs ≡ n) → (stop : Option ℕ)
      → (zs : List (ℕ × X)) × PairsOf (λ is. is ≡ range_with_len start (end - start))
      (gives made) zs × StopsAt allowed zs stop
      → (xs : List X) × gives list xs × FirstPlaceOf verdict xs stop
  first_place_of gives made list start end n is zero whole long stop (zs, pairs, stops) =
      let (xs, came, numbers) =
      came_numbered gives made list start end n is zero whole long zs pairs in
      (xs, came, placed xs stop (subst (λ l. StopsAt allowed l stop) numbers stops))

pub returns-clause-first : goal.returns-clause-first
returns-clause-first g c = IfOk-weaker c.first_stop.result _ _ (λ r w. first_place_of
    (λ x b. goal.F-post g c.args.test x b) _ (λ z out k. search rules) g.L.Producer.gives
    c.new.result.pairs.right c.args.list c.new.result.pairs.left.start
    c.new.result.pairs.left.end c.len-len.result c.new.ensures.list c.new.ensures.start
    (c.new.ensures.end ∙ sym c.len-len.ensures.counted) c.len-len.ensures.each r w)
    c.first_stop.ensures.stops

pub returns-clause-plain : goal.returns-clause-plain
returns-clause-plain g c passes goes = IfOk-weaker c.first_stop.result _ _
    (λ r w. (w.0, w.1, plain_place (λ x b. goal.F-post g c.args.test x b) passes goes w.0 r w.2))
    (returns-clause-first g c)
