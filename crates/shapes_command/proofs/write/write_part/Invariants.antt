-- Nothing was written yet.
use Rattle.shapes_command.proofs.{Keeps}
use Rattle.shapes_command.proofs.write.write_part.Given as goal

abbrev pub invariant-loop : goal.invariant-loop
invariant-loop g l = Keeps (g.W.Write.contents l.initial.writer) (g.W.Write.contents l.writer)
