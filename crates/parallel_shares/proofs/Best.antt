-- A scan keeps what holds of the numbers so far, as that the best of them precedes each.
use Rattle.parallel_shares.proofs.Common.{ℕ, ◌+◌, ◌<◌, inl, inr, subst, sym, arith, cases_eq}

-- what holds of each number below one and of that one holds of each below the next
pub each_below : {P : ℕ → Type 0} (n : ℕ) → ((k : ℕ) → k < n → P k) → P n → (k : ℕ) → k < n + 1
    → P k
each_below {P} n each here k h = elim (cases_eq k n) [
  | inl e ↦ subst P (sym e) here
  | inr o ↦ each k (omega (arith, h, o))
]
