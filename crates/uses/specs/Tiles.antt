-- What is counted of a matrix, whose rows stand one after another, each of that many columns.
use Rattle.std.specs.Prelude.{ℕ, ◌+◌, ◌*◌, Bool, List, count_by, map, nat_lt}
use Rattle.std.specs.List.{range_with_len, slice_range}

-- whether a cell is above a threshold
abbrev pub is_above : ℕ → ℕ → Bool
is_above threshold cell = nat_lt threshold cell

-- how many cells pass a test
abbrev pub number_of : (ℕ → Bool) → List ℕ → ℕ
number_of test cells = count_by test cells

-- the cells of a row from one column up to another
abbrev pub row_cells : List ℕ → ℕ → ℕ → ℕ → ℕ → List ℕ
row_cells matrix len row start end = slice_range matrix (row * len + start) (row * len + end)

-- how many cells of each row pass a test, for the rows below a number
abbrev pub numbers_by_row : (ℕ → Bool) → List ℕ → ℕ → ℕ → List ℕ
numbers_by_row test matrix rows len =
    map (λ row. number_of test (row_cells matrix len row 0 len)) (range_with_len 0 rows)
