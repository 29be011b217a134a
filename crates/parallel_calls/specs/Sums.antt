-- Products, and what comes of a sum that is checked.
use Rattle.std.specs.Prelude.{◌≡◌, ℕ, ◌+◌, ◌*◌, ◌^◌, ◌≤◌, List, [], ◌∷◌, Option, Some, None, MatchOption, sum_by}

-- the product of what a function gives of the items
unfoldable pub product_by : {X : Type 0} → (X → ℕ) → List X → ℕ
product_by f [] = 1
product_by f (x ∷ xs) = f x * product_by f xs

-- the sum, where it is below 2 to the power of 64, and none where it isn't
abbrev pub CheckedSumOf : {N : Type 0} → (N → ℕ) → List N → Option N → Type 0
CheckedSumOf value xs found =
    MatchOption found (2 ^ 64 ≤ sum_by value xs) (λ sum. value sum ≡ sum_by value xs)

-- the sum of two, where both are there and it is below 2 to the power of 64, and none otherwise
abbrev pub ChecksTwo : {N : Type 0} → (N → ℕ) → Option N → Option N → Option N → Type 0
ChecksTwo value None right found = found ≡ None
ChecksTwo value (Some a) None found = found ≡ None
ChecksTwo value (Some a) (Some b) found =
    MatchOption found (2 ^ 64 ≤ value a + value b) (λ sum. value sum ≡ value a + value b)
