-- the items so far are put together
use Rattle.std.proofs.Common.{take}
use Rattle.parallel_calls.specs.Reductions.{Reduces}
use Rattle.parallel_calls.proofs.passes.total_of.Given as goal

abbrev pub invariant-loop-k : goal.invariant-loop-k
invariant-loop-k g l = Reduces (goal.G-post g l.op) (take l.k l.items) l.total
