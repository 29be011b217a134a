-- What is counted of numbers by their last binary digit.
use Rattle.std.specs.Prelude.{ℕ, ◌%◌, Bool, nat_eq}

-- whether a number is even
abbrev pub is_even : ℕ → Bool
is_even number = nat_eq (number % 2) 0

-- whether a number is odd
abbrev pub is_odd : ℕ → Bool
is_odd number = nat_eq (number % 2) 1
