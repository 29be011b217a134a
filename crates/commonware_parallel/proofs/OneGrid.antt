-- Tiles of one grid.
use Rattle.commonware_parallel.proofs.Common.{◌≡◌, ℕ, ◌<◌, [], ◌∷◌, subst, arith}
use Rattle.commonware_parallel.specs.Tiles.{IsSerialCost, IsTiling, grid_of, rows_of}
use Rattle.commonware_parallel.specs.declared.tiles.Tiles.{Tiles}
use Rattle.parallel_shares.specs.Grid.{critical_cost}
use Rattle.parallel_shares.specs.declared.grid.Grid.{Grid}
use Rattle.std.specs.List.{HoldsAt}

-- they have its rows
pub only_grid : {S P : Type 0} (grid : Grid) (len workers : ℕ) (tiles : Tiles S P)
    → IsTiling (grid ∷ []) len workers tiles → rows_of tiles ≡ grid.rows
only_grid grid len workers tiles is =
    let below : grid_of tiles < 1 = is.chosen.0 in
    let first : grid_of tiles ≡ 0 = omega (arith, below) in
    subst (HoldsAt (λ g. rows_of tiles ≡ g.rows) (grid ∷ [])) first is.rows grid

-- and its cost
pub only_cost : (grid : Grid) (len cost : ℕ) → IsSerialCost (grid ∷ []) len cost
    → cost ≡ critical_cost grid len 1
only_cost grid len cost (index, chosen, is) =
    let below : index < 1 = chosen.0 in
    let first : index ≡ 0 = omega (arith, below) in
    subst (HoldsAt (λ g. cost ≡ critical_cost g len 1) (grid ∷ [])) first is grid
