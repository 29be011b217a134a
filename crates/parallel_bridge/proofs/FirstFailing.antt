-- The first failing index of a map over indices whose closure may fail.
use Rattle.parallel_bridge.proofs.Common.{◌≡◌, ℕ, ◌-◌, ◌<◌, List, Result, Ok, Err, Vec, Global, arith, subst, MatchResult, range_with_len}
use Rattle.parallel_bridge.proofs.Common.{Trouble, Closure, OfFault, UnlessRefused, listed, TryMapOf}
use Rattle.parallel_bridge.proofs.Firsts.{all_in_range, first_in_range, first_judged}
use Rattle.parallel_fault.specs.Trouble.{IfClosure}

-- every index passes; or one fails by the error, and each below it passes
abbrev pub FailsFirst : {Y E : Type 0} → (ℕ → Result Y E → Type 0) → (ℕ → Type 0) → ℕ → E → Type 0
FailsFirst allowed passes n e = (index : ℕ) × (index < n) × allowed index (Err e)
    × ((i : ℕ) → i < index → passes i)

module _ {Y E : Type 0} (allowed : ℕ → Result Y E → Type 0) (passes : ℕ → Type 0)
    (passing : (i : ℕ) (y : Y) → allowed i (Ok y) → passes i) where
  judged : (n : ℕ) (out : Result (List Y) E) (xs : List ℕ) → xs ≡ range_with_len 0 (n - 0)
      → TryMapOf allowed xs out → MatchResult out (λ _. (i : ℕ) → i < n → passes i)
      (λ e. FailsFirst allowed passes n e)
  judged n (Ok ys) xs same h = λ i high. all_in_range passes (n - 0)
      (first_judged allowed passes (λ e i. allowed i (Err e)) passing (λ i e k. k)
      (range_with_len 0 (n - 0)) (Ok ys) (subst (λ l. TryMapOf allowed l (Ok ys)) same h)) i
      (omega (arith, high))
  judged n (Err e) xs same h =
      let (index, place, first) =
      first_judged allowed passes (λ e' i. allowed i (Err e')) passing (λ i e' k. k)
      (range_with_len 0 (n - 0)) (Err e) (subst (λ l. TryMapOf allowed l (Err e)) same h) in
      let (is, inside, below) =
      first_in_range (λ i. allowed i (Err e)) passes (n - 0) index place first in
      let (before, after, split, fails, holds, at) = first in
      (index, omega (arith, is, inside), holds, λ i under. below i (omega (arith, is, under)))

-- what came of a map over the indices below n
pub first_failing : {Y E : Type 0} (allowed : ℕ → Result Y E → Type 0) (passes : ℕ → Type 0)
    → ((i : ℕ) (y : Y) → allowed i (Ok y) → passes i)
    → (n : ℕ) (result : Result (Vec Y Global) (Trouble E))
    → UnlessRefused result (λ out. (xs : List ℕ) × (xs ≡ range_with_len 0 (n - 0))
    × TryMapOf allowed xs (listed out)) → MatchResult result (λ _. (i : ℕ) → i < n → passes i)
    (λ trouble. IfClosure trouble (FailsFirst allowed passes n))
first_failing allowed passes passing n (Ok ys) gave =
    judged allowed passes passing n (Ok ys.items) gave.0 gave.1 gave.2
first_failing allowed passes passing n (Err (OfFault f)) gave = tt
first_failing allowed passes passing n (Err (Closure e)) gave =
    judged allowed passes passing n (Err e) gave.0 gave.1 gave.2
