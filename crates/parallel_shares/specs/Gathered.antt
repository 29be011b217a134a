-- What one seat has when it has taken in others.
use Rattle.std.specs.Prelude.{◌≡◌, ℕ, List}
use Rattle.parallel_shares.specs.declared.shares.rule.View.{View}
use Rattle.parallel_shares.specs.declared.shares.seat.Seat.{Seat}
use Rattle.parallel_shares.specs.Holders.{in_ranges}
use Rattle.parallel_shares.specs.Totals.{total, times}
use Rattle.parallel_shares.specs.Seats.{known}

-- the view has as much as the seats have together: numbers, claims, units in transit, numbers of
-- empty words, changes
pub record HasAll (view : View) (seats : List Seat) : Type 0 where
  pub owns : (k : ℕ) → times k view.owns ≡ total (λ s. times k (known s).owns) seats
  pub claims : (c : ℕ) → in_ranges c view.claims ≡ total (λ s. in_ranges c (known s).claims) seats
  pub transit : (u : ℕ) → in_ranges u view.transit ≡ total
      (λ s. in_ranges u (known s).transit) seats
  pub empties : (k : ℕ) → times k view.empties ≡ total (λ s. times k (known s).empties) seats
  pub changes : view.changes ≡ total (λ s. (known s).changes) seats
