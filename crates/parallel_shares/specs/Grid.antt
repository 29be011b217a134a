-- What grids of tiles cost, and which of several is chosen.
use Rattle.std.specs.Prelude.{ℕ, ◌+◌, ◌-◌, ◌*◌, ◌/◌, ◌^◌, ◌<◌, min, Bool, ◌||◌, if◌then◌else◌, nat_lt, nat_le, List, length, map, slice_index, All}
use Rattle.std.specs.Int.{div_ceil}
use Rattle.std.specs.Int.NonZero.{non_zero_usize_get}
use Rattle.parallel_shares.specs.Best.{IsBestOf, Precedes}
use Rattle.parallel_shares.specs.declared.grid.Grid.{Grid}

-- a sum or product that stops at the greatest usize
abbrev pub stopping : ℕ → ℕ
stopping n = min n (2 ^ 64 - 1)

-- the cost of a tile, in columns
abbrev pub tile_cost_of : Grid → ℕ
tile_cost_of grid = non_zero_usize_get grid.tile_cost

-- the cost of a whole row as one tile
abbrev pub row_cost : Grid → ℕ → ℕ
row_cost grid len = stopping (len + tile_cost_of grid)

-- where rows stay whole: the cost of the rows of the worker that has the most
abbrev pub whole_cost : Grid → ℕ → ℕ → ℕ
whole_cost grid len workers = stopping (div_ceil grid.rows workers * row_cost grid len)

-- where rows are cut: an even share of all rows, and three tiles' cost
abbrev pub cut_cost : Grid → ℕ → ℕ → ℕ
cut_cost grid len workers =
    stopping (stopping (grid.rows * row_cost grid len) / workers + stopping (3 * tile_cost_of grid))

-- rows stay whole where they are shorter than two tiles' cost, or where cutting them is no cheaper
abbrev pub stays_whole : Grid → ℕ → ℕ → Bool
stays_whole grid len workers = nat_lt len (stopping (2 * tile_cost_of grid))
    || nat_le (whole_cost grid len workers) (cut_cost grid len workers)

-- What the longest chain of work costs, where each sum and product stops at the greatest usize.
-- With row = len + tile_cost, whole = ceil(rows / workers) * row and cut = floor(rows * row /
-- workers) + 3 * tile_cost, it is cut if 2 * tile_cost <= len and cut < whole, and else whole.
abbrev pub critical_cost : Grid → ℕ → ℕ → ℕ
critical_cost grid len workers = if stays_whole grid len workers then whole_cost grid len workers
    else cut_cost grid len workers

-- the costs of a list of grids, in its order
abbrev pub costs_of : List Grid → ℕ → ℕ → List ℕ
costs_of grids len workers = map (λ grid. critical_cost grid len workers) grids

-- among the first `count` grids the one at the index has the least cost, and no earlier one has it
abbrev pub IsCheapest : List Grid → ℕ → ℕ → ℕ → ℕ → Type 0
IsCheapest grids len workers count index =
    IsBestOf (λ i best. Precedes (slice_index (costs_of grids len workers)) best i) count index

-- the grid at the index has the least cost of the list, and no earlier one has it
abbrev pub IsChosenGrid : List Grid → ℕ → ℕ → ℕ → Type 0
IsChosenGrid grids len workers index = IsCheapest grids len workers (length grids) index

-- there is a grid, and the number of cells of each is at most the greatest usize
abbrev pub Fits : List Grid → ℕ → Type 0
Fits grids len = (0 < length grids) × All (λ grid. grid.rows * len < 2 ^ 64) grids
