-- Each part so far was no refusal.
use Rattle.shapes_command.proofs.{◌≡◌, map, Ok}
use Rattle.shapes_command.proofs.drain.all_drained.Given as goal

abbrev pub invariant-loop-part : goal.invariant-loop-part
invariant-loop-part l = map Ok l.drained.items ≡ l.yielded
