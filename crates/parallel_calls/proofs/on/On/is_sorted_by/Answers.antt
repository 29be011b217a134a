-- The step stops at the first item that doesn't fit the next one.
use Rattle.std.proofs.Common.{◌≡◌, ℕ, ◌-◌, List, Bool, true, false, length, subst, arith, rules}
use Rattle.std.specs.List.{IsAllAdjacentAnswer, range_with_len}
use Rattle.parallel_bridge.proofs.Firsts.{all_in_range, first_in_range}
use Rattle.parallel_calls.specs.Functions.{GoesByPair}
use Rattle.parallel_calls.specs.Neighbours.{HoldsAtNext}
use Rattle.parallel_calls.specs.Verdicts.{AllOf}
use Rattle.std.specs.Fn.{FnReturnsAtPair}
use Rattle.parallel_calls.proofs.FirstItems.{all_of}
use Rattle.parallel_calls.proofs.on.On.is_sorted_by.Goals as goal

module _ {X : Type 0} (E : X → X → Bool → Type 0) (xs : List X) where
  -- over the places from 0 on, of which there is one fewer than items
  counted : (n : ℕ) → n ≡ length xs - 1 → (b : Bool)
      → AllOf (HoldsAtNext E xs) (range_with_len 0 n) b → IsAllAdjacentAnswer E xs b
  counted n long true each = λ k d below.
      all_in_range (λ p. HoldsAtNext E xs p true) n each k (omega (arith, below, long)) d
  counted n long false (x, place, first) =
      let (same, inside, below) = first_in_range (λ p. HoldsAtNext E xs p false)
      (λ p. HoldsAtNext E xs p true) n x place first in
      let (before, after, split, passes, fails, at) = first in
      (x, omega (arith, same, inside, long), fails)

-- the same over the places that came
neighbours_of : {X : Type 0} (E : X → X → Bool → Type 0) (xs : List X) (places : List ℕ)
    (n : ℕ) (b : Bool) → AllOf (HoldsAtNext E xs) places b → places ≡ range_with_len 0 n
    → n ≡ length xs - 1 → IsAllAdjacentAnswer E xs b
neighbours_of E xs places n b all come long =
    counted E xs n long b (subst (λ l. AllOf (HoldsAtNext E xs) l b) come all)

-- of verdicts that go by a function
plain_neighbours : {X : Type 0} (E : X → X → Bool → Type 0) (fits : X → X → Bool)
    → GoesByPair E fits → (xs : List X) (b : Bool) → IsAllAdjacentAnswer E xs b
    → IsAllAdjacentAnswer (λ x y c. c ≡ fits x y) xs b
plain_neighbours E fits goes xs true each = λ k d below. goes _ _ true (each k d below)
plain_neighbours E fits goes xs false (k, below, fails) =
    (k, below, λ d. goes _ _ false (fails d))

pub returns-clause-sorted : goal.returns-clause-sorted
returns-clause-sorted g c =
    let w = c.in_ok-stop.ensures.stops in
    neighbours_of (λ x y b. FnReturnsAtPair g.C.Fn c.args.compare x y b) c.args.items.now w.0
    (length c.args.items.now - 1) c.is_none.result (all_of (HoldsAtNext
    (λ x y b. FnReturnsAtPair g.C.Fn c.args.compare x y b) c.args.items.now) _
    (λ k out h. search rules) w.0 c.in_ok-stop.stop c.is_none.result (search rules) w.2)
    (search rules) (search rules)

pub returns-clause-plain : goal.returns-clause-plain
returns-clause-plain g c fits goes =
    plain_neighbours (λ x y b. FnReturnsAtPair g.C.Fn c.args.compare x y b) fits goes
    c.args.items.now c.is_none.result (returns-clause-sorted g c)
