-- The best of the numbers below a count.
use Rattle.std.specs.Prelude.{ℕ, ◌<◌, ◌≤◌}

-- the first number has the lower measure, or the same and isn't the greater number
abbrev pub Precedes : (ℕ → ℕ) → ℕ → ℕ → Type 0
Precedes measure i k = (measure i ≤ measure k) × (k < i → measure i < measure k)

-- the number is below the count, and each number there gives way to it
abbrev pub IsBestOf : (ℕ → ℕ → Type 0) → ℕ → ℕ → Type 0
IsBestOf GivesWay count best = (best < count) × ((k : ℕ) → k < count → GivesWay k best)
