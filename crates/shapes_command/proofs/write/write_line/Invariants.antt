-- What is gone from the rest was written.
use Rattle.shapes_command.proofs.{◌≡◌, ℕ, List, ◌++◌, length, Appends}
use Rattle.shapes_command.proofs.write.write_line.Given as goal

abbrev pub invariant-loop-rest : goal.invariant-loop-rest
invariant-loop-rest g l = (done : List ℕ) × (l.initial.rest ≡ done ++ l.rest)
    × Appends (g.W.Write.contents l.initial.writer) (g.W.Write.contents l.writer) done

abbrev pub decreases-loop-rest : goal.decreases-loop-rest
decreases-loop-rest g l = length l.rest
