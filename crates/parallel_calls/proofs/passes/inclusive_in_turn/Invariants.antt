-- the items before the turn's are scanned
use Rattle.parallel_calls.proofs.Scans.{ScannedBelow}
use Rattle.parallel_calls.specs.declared.passes.Form.TheVariants.{Inclusive}
use Rattle.parallel_calls.proofs.passes.inclusive_in_turn.Given as goal

abbrev pub invariant-loop-k : goal.invariant-loop-k
invariant-loop-k g l =
    ScannedBelow (goal.G-post g l.op) Inclusive l.fn.start l.k l.fn.items l.items l.so_far
