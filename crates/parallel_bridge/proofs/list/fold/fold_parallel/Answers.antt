-- What comes is closed under the closures.
use Rattle.parallel_bridge.specs.Comes.{of_identity, of_step, of_reduction}
use Rattle.parallel_bridge.proofs.list.fold.fold_parallel.Goals as goal

pub fold_among-requires-clause-begins : goal.fold_among-requires-clause-begins
fold_among-requires-clause-begins g c κs within e h = of_identity h

pub fold_among-requires-clause-steps : goal.fold_among-requires-clause-steps
fold_among-requires-clause-steps g c κs within x may a h =
    (c.requires.fold_accepts x may a h, λ b k. of_step h may k)

pub fold_among-requires-clause-reduces : goal.fold_among-requires-clause-reduces
fold_among-requires-clause-reduces g c κs within a b h k =
    (c.requires.reduce_accepts a b h k, λ r one. of_reduction h k one)
