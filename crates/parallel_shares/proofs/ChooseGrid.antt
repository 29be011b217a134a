-- The first grid of least cost, found by one scan.
use Rattle.parallel_shares.proofs.Common.{◌≡◌, ℕ, ◌+◌, ◌<◌, ◌≤◌, Bool, List, length, get_or, slice_index, HoldsAt, arith, sym, ◌∙◌, get_or-map, at_read}
use Rattle.parallel_shares.proofs.Best.{each_below}
use Rattle.parallel_shares.specs.declared.grid.Grid.{Grid}
use Rattle.parallel_shares.specs.Grid.{critical_cost, stays_whole, costs_of, IsCheapest}

module _ (grids : List Grid) (len workers : ℕ) where
  -- a grid's cost is the number, and whether its rows stay whole
  abbrev Costs : ℕ → Grid → Type 0
  Costs cost grid = cost ≡ critical_cost grid len workers

  abbrev Stays : Bool → Grid → Type 0
  Stays whole grid = whole ≡ stays_whole grid len workers

  -- the chosen one of the first `count` grids; `cost` and `whole` are its own
  pub record IsChosenSoFar (count chosen cost : ℕ) (whole : Bool) : Type 0 where
    pub best : IsCheapest grids len workers count chosen
    pub costs : HoldsAt (Costs cost) grids chosen
    pub stays : HoldsAt (Stays whole) grids chosen

  -- a grid's place in the list of costs
  cost_at : (grid : Grid) (i cost : ℕ) → i < length grids → HoldsAt (Costs cost) grids i
      → slice_index (costs_of grids len workers) i ≡ cost
  cost_at grid i cost within costs =
      get_or-map (λ g. critical_cost g len workers) grids i grid 0 within ∙ sym (costs grid)

  -- a further grid is passed over if it costs no less, and else it's the chosen one from there on
  pub IsChosenSoFar-more : (count chosen cost next : ℕ) (whole stays : Bool) (grid : Grid)
      → IsChosenSoFar count chosen cost whole → count < length grids
      → grid ≡ get_or grids count grid → Costs next grid → Stays stays grid
      → (cost ≤ next → IsChosenSoFar (count + 1) chosen cost whole)
      × (next < cost → IsChosenSoFar (count + 1) count next stays)
  IsChosenSoFar-more count chosen cost next whole stays grid so_far more at costs is_stays =
      let exists : chosen < count = so_far.best.0 in
      let here : HoldsAt (Costs next) grids count =
      at_read grids (Costs next) count grid more at costs in
      let new = cost_at grid count next more here in
      let old = cost_at grid chosen cost (omega (arith, exists, more)) so_far.costs in (
        λ dearer. record {
          best = (
            omega (arith, exists),
            each_below count so_far.best.1 (
              omega (arith, old, new, dearer),
              λ l. absurd (omega (arith, l, exists)),
            ),
          );
          costs = so_far.costs;
          stays = so_far.stays;
        },
        λ cheaper. record {
          best = (
            omega arith,
            each_below count (λ k l. (
              omega (arith, old, new, cheaper, (so_far.best.1 k l).0),
              λ _. omega (arith, old, new, cheaper, (so_far.best.1 k l).0),
            )) (omega arith, λ l. absurd (omega (arith, l))),
          );
          costs = here;
          stays = at_read grids (Stays stays) count grid more at is_stays;
        },
      )
