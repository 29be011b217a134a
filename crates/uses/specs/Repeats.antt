-- Lists in which a repeated number is left out.
use Rattle.std.specs.Prelude.{ℕ, List, [], ◌∷◌, Option, Some, None}

-- the numbers, where a gap stands for the number before it; the last one stands before the first
abbrev pub filled : ℕ → List (Option ℕ) → List ℕ
filled last [] = []
filled last (Some number ∷ entries) = number ∷ filled number entries
filled last (None ∷ entries) = last ∷ filled last entries
