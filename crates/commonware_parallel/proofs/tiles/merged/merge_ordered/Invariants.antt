-- The rows that came are merged, and the beginning of the next one.
use Rattle.commonware_parallel.proofs.{Sofar}
use Rattle.commonware_parallel.proofs.tiles.merged.merge_ordered.Given as goal

abbrev pub invariant-loop-part : goal.invariant-loop-part
invariant-loop-part g l =
    Sofar (λ a b c. goal.M-post g l.merge a b c) l.rows l.len l.yielded l.values.items l.held
