-- A root of the level is one of the leaves.
use Rattle.commonware_parallel.proofs.{Option, length, MerkleRoot}
use Rattle.commonware_parallel.proofs.merkle.plain.plain_root.Given as goal

abbrev pub invariant-levels : goal.invariant-levels
invariant-levels g l = (root : Option g.row.T.Denot)
    → MerkleRoot (λ a b n. g.F.Fn.post l.combine (a, (b, tt)) n) l.level.items root
    → MerkleRoot (λ a b n. g.F.Fn.post l.combine (a, (b, tt)) n) l.fn.leaves.items root

abbrev pub decreases-levels : goal.decreases-levels
decreases-levels g l = length l.level.items
