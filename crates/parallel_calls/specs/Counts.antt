-- How many items satisfy a test.
use Rattle.std.specs.Prelude.{◌≡◌, ℕ, ◌+◌, ◌%◌, ◌^◌, Bool, cond, List, count_by}
use Rattle.parallel_bridge.specs.Lists.{MapOf}

-- the next count, which wraps around at 2 to the power of 64
abbrev pub CountsOn : {X : Type 0} → (X → Bool → Type 0) → ℕ → X → ℕ → Type 0
CountsOn verdict count x next =
    (b : Bool) × verdict x b × (next ≡ (count + cond b 1 0) % 2 ^ 64)

-- how many of some verdicts on the items are true, modulo 2 to the power of 64
abbrev pub CountOf : {X : Type 0} → (X → Bool → Type 0) → List X → ℕ → Type 0
CountOf verdict xs count = (bs : List Bool) × MapOf verdict xs bs
    × (count ≡ count_by (λ b. b) bs % 2 ^ 64)
