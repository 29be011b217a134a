-- What the closures of ready calls answer of a number.
use Rattle.std.specs.Prelude.{ℕ, ◌/◌, ◌%◌, ◌==◌, cond, Option, Some, None, Result, Ok, Err}

-- half of an even number, and an odd one as the error
abbrev pub half_of : ℕ → Result ℕ ℕ
half_of x = cond (x % 2 == 0) (Ok (x / 2)) (Err x)

-- the number beside itself where it is even, and beside nothing where it is odd
abbrev pub even_of : ℕ → ℕ × Option ℕ
even_of x = (x, cond (x % 2 == 0) (Some x) None)
