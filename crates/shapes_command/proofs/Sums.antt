-- A chain of steps that add numbers is the sum of the numbers.
use Rattle.shapes_command.proofs.Common.{◌≡◌, ◌+◌, ◌*◌, ◌%◌, ◌^◌, ◌<◌, ◌≤◌, ◌∙◌, ℕ, List, [], Option, ◌∷◌, length, map, arith, sum_by, suc-mul, All, YieldsList, items_from_drains, All-head, All-tail}
use Rattle.shapes_command.proofs.Common.{sum_by-cons, Chain}
use Rattle.std.specs.Iterator.{Drains}

-- what came of a run is the list that every run gives
pub drained : {S A B : Type 0} {steps : S → Option A → S → Type 0} {v : A → B} {s : S}
    {all : List B} (xs : List A) → Drains steps s xs → YieldsList steps v s all → map v xs ≡ all
drained xs (u, (t, gave, ends)) road = items_from_drains xs (t, gave, λ _. (u, ends)) road

-- each step adds the value of an item that is seen by v, and no value is above most, so the sum
-- doesn't wrap around
module _ {A B : Type 0} (v : A → B) (value : B → ℕ) (IsGood : B → Type 0) (most : ℕ)
    (step : ℕ → A → ℕ → Type 0) (at_most : (x : B) → IsGood x → value x ≤ most)
    (adds : (a : ℕ) (x : A) (b : ℕ) → IsGood (v x) → step a x b → b ≡ (a + value (v x)) % 2 ^ 64)
  where
    pub chain_sum : (xs : List A) → All IsGood (map v xs) → (a r : ℕ)
        → a + length (map v xs) * most < 2 ^ 64 → Chain step a xs r
        → r ≡ a + sum_by value (map v xs)
    chain_sum [] good a r fits same = omega (arith, same)
    chain_sum (x ∷ xs) good a r fits (m, stepped, rest) =
        let here : IsGood (v x) = All-head IsGood (v x) (map v xs) good in
        let bound = at_most (v x) here in
        let more : length (map v (x ∷ xs)) * most ≡ length (map v xs) * most + most =
        suc-mul (length (map v xs)) most in
        let added : m ≡ a + value (v x) =
        omega (arith, adds a x m here stepped, bound, more, fits) in
        chain_sum xs (All-tail IsGood (v x) (map v xs) good) m r
        (omega (arith, added, bound, more, fits)) rest
        ∙ omega (arith, added, sum_by-cons value (v x) (map v xs))
