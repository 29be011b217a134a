-- The numbers of a plan are sound: few units cover the cells, and each worker has a claim.
use Rattle.parallel_shares.proofs.Common.{◌≢◌, ℕ, suc, ◌+◌, ◌*◌, ◌/◌, ◌^◌, ◌<◌, ◌≤◌, inl, inr, min, IsFalse, refl, Bool, true, false, arith, mul-le, le-div, div_ceil_times, cases_lt, Work, sizes_of}
use Rattle.parallel_shares.proofs.Common.{IsSound}
use Rattle.std.specs.Int.{div_ceil}

-- units of a size cover the cells, and do so barely
module _ (cells unit : ℕ) (some_unit : 0 < unit) where
  covers : cells ≤ div_ceil cells unit * unit
  covers = (div_ceil_times cells unit some_unit).0

  barely : div_ceil cells unit * unit < cells + unit
  barely = (div_ceil_times cells unit some_unit).1

  -- each unit begins before the cells end
  begins : (u : ℕ) → u < div_ceil cells unit → u * unit < cells
  begins u h = omega (arith, mul-le (suc u) unit (div_ceil cells unit) unit h (omega arith), barely)

  -- as few units as multiples of the size reach past the cells
  few : (most : ℕ) → cells ≤ most * unit → div_ceil cells unit ≤ most
  few most h =
      elim (cases_lt most (div_ceil cells unit)) [
        | inl l ↦ absurd (omega (
          arith,
          mul-le (suc most) unit (div_ceil cells unit) unit l
              (omega arith),
          barely,
        ))
        | inr m ↦ m
      ]

-- the quotient of some cells is no more than that of more cells
div_ceil_mono : (a b k : ℕ) → 0 < k → a ≤ b → div_ceil a k ≤ div_ceil b k
div_ceil_mono a b k p h = few a k p (div_ceil b k) (omega (arith, covers b k p))

-- a rounded quotient of something is something
div_ceil_some : (a k : ℕ) → 0 < k → 0 < a → 0 < div_ceil a k
div_ceil_some a k p h =
    elim (cases_lt 0 (div_ceil a k)) [
      | inl l ↦ l
      | inr m ↦ absurd
          (omega (arith, covers a k p, mul-le (div_ceil a k) k 0 k m (omega arith)))
    ]

-- workers that share claims have one each
module _ (workers units claim : ℕ) (some_workers : 0 < workers) (some_claim : 0 < claim) where
  workers_claim : min workers (units / claim) * claim ≤ units
  workers_claim =
      omega (
        arith,
        mul-le (min workers (units / claim)) claim (units / claim) claim (omega arith)
            (omega arith),
      )

  workers_some : claim ≤ units → 0 < min workers (units / claim)
  workers_some h = omega (arith, le-div 1 units claim some_claim (omega arith))

-- the numbers of a plan of whole rows
whole_sound : (rows len tile_cost workers : ℕ) → rows ≢ 0 → len ≢ 0 → 0 < workers
    → rows * len < 2 ^ 64 → IsSound
    (sizes_of (record {
      rows = rows;
      len = len;
      tile_cost = tile_cost;
      workers = workers;
      whole = true;
    }))
whole_sound rows len tile_cost workers r l w fit =
    let cells : ℕ = rows * len in
    let times : ℕ = div_ceil rows 65535 in
    let unit : ℕ = len * times in
    let units : ℕ = div_ceil cells unit in
    let t : 0 < times = div_ceil_some rows 65535 (omega arith) (omega arith) in
    let p : 0 < unit = omega (arith, mul-le 1 1 len times (omega arith) t) in
    let c : 0 < cells = omega (arith, mul-le 1 1 rows len (omega arith) (omega arith)) in
    let some : 0 < units = div_ceil_some cells unit p c in
    let most : cells ≤ 65535 * unit = omega
    (arith, mul-le rows len (times * 65535) len (covers rows 65535 (omega arith)) (omega arith))
    in
    record {
      unit_counts = p;
      claim_counts = omega arith;
      workers_count = workers_some workers units 1 w (omega arith) some;
      workers_claim = workers_claim workers units 1 w (omega arith);
      units_fit = few cells unit p 65535 most;
      cells_fit = fit;
      units_cover = covers cells unit p;
      units_begin = begins cells unit p;
    }

-- the numbers of a plan that cuts rows of two tiles' cost or more
cut_sound : (rows len tile_cost workers : ℕ) → rows ≢ 0 → 0 < tile_cost → 2 * tile_cost ≤ len
    → 0 < workers → rows * len < 2 ^ 64
    → IsSound (sizes_of (record {
      rows = rows;
      len = len;
      tile_cost = tile_cost;
      workers = workers;
      whole = false;
    }))
cut_sound rows len tile_cost workers r t l w fit =
    let cells : ℕ = rows * len in
    let unit : ℕ = div_ceil cells 65535 in
    let units : ℕ = div_ceil cells unit in
    let claim : ℕ = div_ceil tile_cost unit in
    let c : tile_cost ≤ cells = omega (arith, mul-le 1 len rows len (omega arith) (omega arith)) in
    let p : 0 < unit = div_ceil_some cells 65535 (omega arith) (omega arith) in
    let some : 0 < claim = div_ceil_some tile_cost unit p t in
    record {
      unit_counts = p;
      claim_counts = some;
      workers_count =
          workers_some workers units claim w some (div_ceil_mono tile_cost cells unit p c);
      workers_claim = workers_claim workers units claim w some;
      units_fit = few cells unit p 65535 (omega (arith, covers cells 65535 (omega arith)));
      cells_fit = fit;
      units_cover = covers cells unit p;
      units_begin = begins cells unit p;
    }

-- the numbers of a plan of either kind
either_sound : (rows len tile_cost workers : ℕ) (whole : Bool) → rows ≢ 0 → len ≢ 0 → 0 < tile_cost
    → 0 < workers → rows * len < 2 ^ 64 → (IsFalse whole → 2 * tile_cost ≤ len)
    → IsSound (sizes_of (record {
      rows = rows;
      len = len;
      tile_cost = tile_cost;
      workers = workers;
      whole = whole;
    }))
either_sound rows len tile_cost workers true r l t w fit pays =
    whole_sound rows len tile_cost workers r l w fit
either_sound rows len tile_cost workers false r l t w fit pays =
    cut_sound rows len tile_cost workers r t (pays refl) w fit

-- the numbers of any plan that can be made
pub sizes_sound : (work : Work) → work.rows ≢ 0 → work.len ≢ 0 → 0 < work.tile_cost
    → 0 < work.workers → work.rows * work.len < 2 ^ 64
    → (IsFalse work.whole → 2 * work.tile_cost ≤ work.len) → IsSound (sizes_of work)
sizes_sound work = either_sound work.rows work.len work.tile_cost work.workers work.whole
