-- Counts that are added up over a list.
use Rattle.std.specs.Prelude.{ℕ, ◌+◌, List, [], ◌∷◌}
use Rattle.parallel_shares.specs.Holders.{same_number}

-- the numbers that a function gives at the elements of a list, added up
abbrev pub total : {A : Type 0} → (A → ℕ) → List A → ℕ
total f [] = 0
total f (x ∷ xs) = f x + total f xs

-- how often a number is in a list
abbrev pub times : ℕ → List ℕ → ℕ
times k numbers = total (same_number k) numbers
