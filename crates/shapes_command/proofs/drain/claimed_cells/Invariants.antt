-- The seats so far, and the cells of their lists.
use Rattle.shapes_command.proofs.{◌≡◌, ℕ, map, total, times, seat_of, listed}
use Rattle.shapes_command.proofs.drain.claimed_cells.Given as goal

abbrev pub invariant-loop-seat : goal.invariant-loop-seat
invariant-loop-seat l = record {
  seats : l.seats.items ≡ map seat_of l.yielded;
  cells : (c : ℕ) → times c l.cells.items ≡ total (listed c) l.yielded;
}
