-- what tiles are planned for
use Rattle.std.specs.Prelude.{◌≡◌, ◌≢◌, ℕ, ◌<◌, ◌≤◌, Bool, List, HoldsAt}
use Rattle.std.specs.Int.NonZero.{non_zero_usize_get}
use Rattle.parallel_shares.specs.declared.grid.Grid.{Grid}
use Rattle.parallel_shares.specs.Grid.{IsChosenGrid, critical_cost, stays_whole}
use Rattle.parallel_fault.specs.declared.fault.Fault.{Fault}
use Rattle.parallel_policy.specs.declared.Site.{Site}
use Rattle.commonware_parallel.specs.Calls.{IsInnerOf, tiles_call}
use Rattle.commonware_parallel.specs.declared.call.Call.{Call}
use Rattle.commonware_parallel.specs.declared.call.Pick.{Pick}
use Rattle.commonware_parallel.specs.declared.call.Pick.TheVariants.{Into}
use Rattle.commonware_parallel.specs.declared.tiles.Tiles.{Tiles}

-- the index of the grid in the list that was handed in
abbrev pub grid_of : {S P : Type 0} → Tiles S P → ℕ
grid_of tiles = tiles.grid

-- the rows of the grid, and the columns of each
abbrev pub rows_of : {S P : Type 0} → Tiles S P → ℕ
rows_of tiles = tiles.rows

abbrev pub columns_of : {S P : Type 0} → Tiles S P → ℕ
columns_of tiles = tiles.len

-- for how many workers the tiles are planned
abbrev pub workers_of : {S P : Type 0} → Tiles S P → ℕ
workers_of tiles = non_zero_usize_get tiles.workers

-- whether rows stay whole
abbrev pub keeps_rows : {S P : Type 0} → Tiles S P → Bool
keeps_rows tiles = tiles.whole

-- the strategy that the tiles go through, and their call site
abbrev pub tiles_strategy : {S P : Type 0} → Tiles S P → S
tiles_strategy tiles = tiles.strategy.now

abbrev pub tiles_place : {S P : Type 0} → Tiles S P → P
tiles_place tiles = tiles.site

-- tiles of the grid of least cost for that many workers, on rows of that many columns
pub record IsTiling {S P : Type 0} (grids : List Grid) (len workers : ℕ)
    (tiles : Tiles S P) : Type 0 where
  pub chosen : IsChosenGrid grids len workers (grid_of tiles)
  pub rows : HoldsAt (λ grid. rows_of tiles ≡ grid.rows) grids (grid_of tiles)
  pub whole : HoldsAt (λ grid. keeps_rows tiles ≡ stays_whole grid len workers) grids
      (grid_of tiles)
  pub columns : columns_of tiles ≡ len
  pub planned : workers_of tiles ≡ workers

-- what the grid of least cost for one worker costs
abbrev pub IsSerialCost : List Grid → ℕ → ℕ → Type 0
IsSerialCost grids len cost = (index : ℕ) × IsChosenGrid grids len 1 index
    × HoldsAt (λ grid. cost ≡ critical_cost grid len 1) grids index

-- tiles of the grid of least cost for one worker, through the strategy and with the site
abbrev pub IsSerialTiling : {S P : Type 0} → S → P → List Grid → ℕ → Tiles S P → Type 0
IsSerialTiling strategy place grids len tiles = IsTiling grids len 1 tiles
    × (tiles_strategy tiles ≡ strategy) × (tiles_place tiles ≡ place)

-- What a tile call may return, as `OnSomeBatch`: for some number of workers that the strategy may
-- take for the `tiles_call` of the least serial cost, `allowed` holds of tiles for that many
-- workers.
abbrev pub OnSomeTiles : {S P : Type 0} (takes : S → Site → Call → Pick → Type 0)
    (refuses : S → Site → Call → Fault → Type 0) (plans threads : S → ℕ) (starts : S → Bool)
    (site_of : P → Site) (strategy : S) (place : P) (grids : List Grid) (len multiplier : ℕ)
    (allowed : Tiles S P → Type 0) → Type 0
OnSomeTiles takes refuses plans threads starts site_of strategy place grids len multiplier
    allowed = (cost : ℕ) × IsSerialCost grids len cost
    × (workers : ℕ) × (0 < workers) × (workers ≤ plans strategy)
    × takes strategy (site_of place) (tiles_call (plans strategy) len cost multiplier)
    (Into workers)
    × (tiles : Tiles _ _) × IsTiling grids len workers tiles
    × IsInnerOf takes refuses plans threads starts strategy (tiles_strategy tiles)
    × (tiles_place tiles ≡ place) × allowed tiles

-- a fact, where the tiles are planned for one worker and have cells
abbrev pub IfSerialTiles : {S P : Type 0} → Tiles S P → Type 0 → Type 0
IfSerialTiles tiles fact = workers_of tiles ≡ 1 → rows_of tiles ≢ 0 → columns_of tiles ≢ 0 → fact
