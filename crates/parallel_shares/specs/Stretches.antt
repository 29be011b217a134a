-- How claimed cells are cut at the ends of the rows: cell c is in row c / len, at column c % len.
use Rattle.std.specs.Prelude.{◌≡◌, ◌≢◌, ℕ, ◌+◌, ◌-◌, ◌*◌, ◌<◌, ◌≤◌, List, [], ◌∷◌, ◌++◌, Option, Some, None}
use Rattle.std.specs.List.{range_with_len}
use Rattle.std.specs.declared.ops.Range.{Range}
use Rattle.parallel_shares.specs.declared.shares.stretch.Stretch.{Stretch}
use Rattle.parallel_shares.specs.declared.shares.stretch.Piece.{Piece}

-- ---- cells, one after another

-- the cells of a range; a range that ends where it starts, or before, has none
abbrev pub range_cells : Range ℕ → List ℕ
range_cells r = range_with_len r.start (r.end - r.start)

-- the cells of a list of ranges
abbrev pub all_cells : List (Range ℕ) → List ℕ
all_cells [] = []
all_cells (r ∷ rs) = range_cells r ++ all_cells rs

-- the cells of a stretch, on rows of that many cells
abbrev pub stretch_cells : ℕ → Stretch → List ℕ
stretch_cells len s =
    range_with_len (s.row * len + s.columns.start) (s.columns.end - s.columns.start)

-- the cells of a list of stretches
abbrev pub cut_cells : ℕ → List Stretch → List ℕ
cut_cells len [] = []
cut_cells len (s ∷ ss) = stretch_cells len s ++ cut_cells len ss

-- ---- the cutting

-- columns of a row, at least one
abbrev pub IsStretch : ℕ → Stretch → Type 0
IsStretch len s = (s.columns.start < s.columns.end) × (s.columns.end ≤ len)

-- a stretch does not begin in the row and column where another one ended
abbrev pub StartsAnew : Stretch → Stretch → Type 0
StartsAnew s t = t.row ≡ s.row → t.columns.start ≢ s.columns.end

-- stretches of which none begins where the one before it ended
abbrev pub AreApart : ℕ → List Stretch → Type 0
AreApart len [] = Unit {0}
AreApart len (s ∷ []) = IsStretch len s
AreApart len (s ∷ (t ∷ ss)) = IsStretch len s × StartsAnew s t × AreApart len (t ∷ ss)

-- the stretches have these cells, in this order, and none begins where the one before it ended
abbrev pub CutsCells : ℕ → List ℕ → List Stretch → Type 0
CutsCells len cells ss = (cut_cells len ss ≡ cells) × AreApart len ss

-- the stretches cut the cells of the claims
abbrev pub Cutting : List (Range ℕ) → ℕ → List Stretch → Type 0
Cutting claims len ss = CutsCells len (all_cells claims) ss

-- columns of a row, at least one, whose cells are all below a number, on rows of that many cells
abbrev pub IsPartOfRow : ℕ → ℕ → ℕ → Range ℕ → Type 0
IsPartOfRow cells len row columns = (columns.start < columns.end) × (columns.end ≤ len)
    × (row * len + columns.end ≤ cells)

-- a row that has cells below a number
abbrev pub StartsBelow : ℕ → ℕ → ℕ → Type 0
StartsBelow cells len row = row * len < cells

-- ---- a cutting on its way, with a stretch that is open

-- the open stretch, ended
abbrev pub stretch_of : Piece → Stretch
stretch_of p = record { row = p.row; columns = record { start = p.start; end = p.end } }

abbrev pub stretches_of : Option Piece → List Stretch
stretches_of None = []
stretches_of (Some p) = stretch_of p ∷ []

-- a tile of a row, and its cells
abbrev pub IsPiece : ℕ → Piece → Type 0
IsPiece len p = (p.start < p.end) × (p.end ≤ len)

abbrev pub piece_cells : ℕ → Piece → List ℕ
piece_cells len p = stretch_cells len (stretch_of p)

-- the cells so far are cut into the stretches that were found and the open one; with none open
-- there was no cell
abbrev pub Parted : ℕ → List ℕ → List Stretch → Option Piece → Type 0
Parted len cells found None = (found ≡ []) × (cells ≡ [])
Parted len cells found (Some p) = CutsCells len cells (found ++ stretch_of p ∷ [])

-- a tile goes on where the open stretch ends, and the stretch grows by it; or it does not
abbrev pub Grown : Option Piece → Piece → Option Piece → Type 0
Grown None piece None = Unit {0}
Grown (Some p) piece None = p.row ≡ piece.row → piece.start ≢ p.end
Grown (Some p) piece (Some longer) =
    (p.row ≡ piece.row) × (p.end ≡ piece.start)
    × (longer ≡ record { row = p.row; start = p.start; end = piece.end })
Grown None piece (Some longer) = ⊥
