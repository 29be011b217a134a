-- What comes back from workers that claim until their words are empty.
use Rattle.std.specs.Prelude.{◌≡◌, ℕ, ◌<◌, true, List, length, slice_index_or, None}
use Rattle.parallel_shares.specs.declared.shares.seat.Seat.{Seat}
use Rattle.parallel_shares.specs.declared.shares.Shares.{Shares}
use Rattle.parallel_shares.specs.Holders.{inside, in_ranges}
use Rattle.parallel_shares.specs.Totals.{times}
use Rattle.parallel_shares.specs.Seats.{plan_of, index_of, claims_of, has_emptied, transit_of, IsSeatOf}
use Rattle.shapes_command.specs.declared.drain.Drained.{Drained}

-- the seat of what came back
abbrev pub seat_of : Drained → Seat
seat_of drained = drained.seat

-- how often a cell is in the list of what came back
abbrev pub listed : ℕ → Drained → ℕ
listed c drained = in_ranges c drained.claims.items

-- each number below one is in the list once, and no other number
abbrev pub HasEachOnce : ℕ → List ℕ → Type 0
HasEachOnce n numbers = (c : ℕ) → times c numbers ≡ inside c 0 n

-- the seat of a number has come back with nothing in transit, has seen its word empty, and has
-- claimed just what its list says
pub record IsDrained (shares : Shares) (number : ℕ) (drained : Drained) : Type 0 where
  pub belongs : IsSeatOf shares (seat_of drained)
  pub same : index_of (seat_of drained) ≡ number
  pub emptied : has_emptied (seat_of drained) ≡ true
  pub transit : transit_of (seat_of drained) ≡ None
  pub claims : claims_of (seat_of drained) ≡ drained.claims.items

-- all seats of the shares have come back so, in order
pub record AreDrained (shares : Shares) (drained : List Drained) : Type 0 where
  pub count : length drained ≡ (plan_of shares).workers
  pub each : (i : ℕ) (d : Drained) → i < length drained
      → IsDrained shares i (slice_index_or drained i d)
