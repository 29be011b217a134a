-- The one seat and those that are left have together what all seats had.
use Rattle.parallel_shares.proofs.{◌≡◌, ◌<◌, ℕ, length, get_or, Seat, IsSeatOf, Gathering}
use Rattle.parallel_shares.proofs.shares.Shares.gather.Given as goal

abbrev pub invariant-loop-seat : goal.invariant-loop-seat
invariant-loop-seat l = record {
  table : l.all.table_id ≡ l.self.table.shared.table_id;
  each : (i : ℕ) (d : Seat) → i < length l.seats.items → IsSeatOf l.self (get_or l.seats.items i d);
  has : Gathering l.all.me.0 l.seats.items l.fn.seats.items;
}

abbrev pub decreases-loop-seat : goal.decreases-loop-seat
decreases-loop-seat l = length l.seats.items
