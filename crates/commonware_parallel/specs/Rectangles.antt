-- stretches that cut a rectangle of rows and columns
use Rattle.std.specs.Prelude.{◌≡◌, ℕ, ◌<◌, ◌≤◌, List, All, cond, eqb, map}
use Rattle.std.specs.List.{range_with_len}
use Rattle.std.specs.declared.ops.Range.{Range}
use Rattle.parallel_shares.specs.declared.shares.stretch.Stretch.{Stretch}
use Rattle.parallel_shares.specs.Holders.{inside}
use Rattle.parallel_shares.specs.Stretches.{IsStretch}
use Rattle.parallel_shares.specs.Totals.{total}

-- 1 where a stretch has the cell of a row and a column, else 0
abbrev pub has_cell : ℕ → ℕ → Stretch → ℕ
has_cell row column s = cond (eqb s.row row) (inside column s.columns.start s.columns.end) 0

-- the stretches are of the rows below a number, on rows of that many columns, and each cell of
-- these rows is in just one
pub record CutsRectangle (rows len : ℕ) (cut : List Stretch) : Type 0 where
  pub within : All (λ s. (s.row < rows) × IsStretch len s) cut
  pub once : (row column : ℕ) → row < rows → column < len → total (has_cell row column) cut ≡ 1

-- a row of the grid, and columns of it, at least one
abbrev pub IsInGrid : ℕ → ℕ → ℕ → Range ℕ → Type 0
IsInGrid rows len row columns = (row < rows) × (columns.start < columns.end) × (columns.end ≤ len)

-- the stretch has all columns of its row
abbrev pub IsWholeRow : ℕ → Stretch → Type 0
IsWholeRow len s = (s.columns.start ≡ 0) × (s.columns.end ≡ len)

-- a whole row
abbrev pub whole_row : ℕ → ℕ → Stretch
whole_row len row = record { row = row; columns = record { start = 0; end = len } }

-- that many rows from one on, whole and in order
abbrev pub whole_rows : ℕ → ℕ → ℕ → List Stretch
whole_rows len row n = map (whole_row len) (range_with_len row n)
