-- The numbers of a plan: how a grid of rows of equal length is cut into units, claims and shares.
use Rattle.std.specs.Prelude.{ℕ, zero, suc, ◌+◌, ◌*◌, ◌/◌, ◌%◌, ◌^◌, ◌<◌, ◌≤◌, min, Bool, cond, ltb}
use Rattle.std.specs.Int.{div_ceil}

-- what a plan is made for: that many rows of that many cells, a tile's cost, workers, and whether
-- rows stay whole
pub record Work : Type 0 where
  pub rows : ℕ
  pub len : ℕ
  pub tile_cost : ℕ
  pub workers : ℕ
  pub whole : Bool

-- the numbers of a plan: cells, cells in a unit, units in a claim, units, workers, the cost that a
-- split has to exceed in cells, and whether rows stay whole
pub record Sizes : Type 0 where
  pub cells : ℕ
  pub unit : ℕ
  pub claim : ℕ
  pub units : ℕ
  pub workers : ℕ
  pub split_cost : ℕ
  pub whole : Bool

-- the cells of the grid
abbrev pub cells_of : Work → ℕ
cells_of work = work.rows * work.len

-- the cells of a unit, so that at most 65535 units cover the grid: whole rows, or any cells
abbrev pub unit_of : Work → ℕ
unit_of work =
    cond work.whole (work.len * div_ceil work.rows 65535) (div_ceil (cells_of work) 65535)

-- the units of a claim: one unit of whole rows, or as many as a tile costs
abbrev pub claim_of : Work → ℕ
claim_of work = cond work.whole 1 (div_ceil work.tile_cost (unit_of work))

-- the units that cover the grid
abbrev pub units_of : Work → ℕ
units_of work = div_ceil (cells_of work) (unit_of work)

-- the workers: no more than there are claims
abbrev pub workers_of : Work → ℕ
workers_of work = min work.workers (units_of work / claim_of work)

-- the cost in cells that a split has to exceed
abbrev pub split_cost_of : Work → ℕ
split_cost_of work = cond work.whole 0 work.tile_cost

-- the numbers of the plan for some work
abbrev pub sizes_of : Work → Sizes
sizes_of work =
    record {
      cells = cells_of work;
      unit = unit_of work;
      claim = claim_of work;
      units = units_of work;
      workers = workers_of work;
      split_cost = split_cost_of work;
      whole = work.whole;
    }

-- The numbers of a plan. Whole rows: a unit is ceil(rows / 65535) rows, a claim one unit, and one
-- share has all units. Cut rows: a unit is ceil(cells / 65535) cells, a claim as many units as a
-- tile costs, a split has to exceed a tile's cost, and there is a share for each worker. There are
-- no more workers than claims.
abbrev pub sizes_for : ℕ → ℕ → ℕ → ℕ → Bool → Sizes
sizes_for rows len tile_cost workers whole =
    sizes_of (record {
      rows = rows;
      len = len;
      tile_cost = tile_cost;
      workers = workers;
      whole = whole;
    })

-- the number of shares: one for whole rows, else one a worker
abbrev pub shares_of : Sizes → ℕ
shares_of sizes = cond sizes.whole 1 sizes.workers

-- the share that a seat claims from: the one share of whole rows, else its own
abbrev pub share_of : Sizes → ℕ → ℕ
share_of sizes seat = cond sizes.whole 0 seat

-- the end of some units in cells: the last unit may be cut short by the grid's end
abbrev pub cells_to : Sizes → ℕ → ℕ
cells_to sizes stop = min (stop * sizes.unit) sizes.cells

-- how many of the units the share at a place opens with: the first shares have the one more that is
-- left over
abbrev pub opening_size : Sizes → ℕ → ℕ
opening_size sizes share = sizes.units / shares_of sizes + cond
    (ltb share (sizes.units % shares_of sizes)) 1 0

-- the first unit of the share at a place: the shares open in order and with no gap, from unit 0
abbrev pub opening_start : Sizes → ℕ → ℕ
opening_start sizes zero = 0
opening_start sizes (suc share) = opening_start sizes share + opening_size sizes share

-- what holds of the numbers of every plan
pub record IsSound (sizes : Sizes) : Type 0 where
  pub unit_counts : 0 < sizes.unit
  pub claim_counts : 0 < sizes.claim
  pub workers_count : 0 < sizes.workers
  pub workers_claim : sizes.workers * sizes.claim ≤ sizes.units
  pub units_fit : sizes.units ≤ 65535
  pub cells_fit : sizes.cells < 2 ^ 64
  pub units_cover : sizes.cells ≤ sizes.units * sizes.unit
  pub units_begin : (u : ℕ) → u < sizes.units → u * sizes.unit < sizes.cells
