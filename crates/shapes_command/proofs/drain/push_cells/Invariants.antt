-- The cells of the ranges so far.
use Rattle.shapes_command.proofs.{◌≡◌, ◌+◌, ℕ, in_ranges, times}
use Rattle.shapes_command.proofs.drain.push_cells.Given as goal

abbrev pub invariant-loop-range : goal.invariant-loop-range
invariant-loop-range l =
    (c : ℕ) → times c l.cells.items ≡ times c l.fn.cells.items + in_ranges c l.yielded
