-- What comes is closed under the closures.
use Rattle.parallel_bridge.proofs.{refl}
use Rattle.parallel_bridge.specs.Comes.{of_identity, of_step, of_reduction}
use Rattle.parallel_bridge.proofs.list.fold_init.fold_init_parallel.Goals as goal

pub fold_init_among-requires-clause-begins : goal.fold_init_among-requires-clause-begins
fold_init_among-requires-clause-begins g c κs within e h = of_identity h

pub fold_init_among-requires-clause-steps : goal.fold_init_among-requires-clause-steps
fold_init_among-requires-clause-steps g c κs within x may a h p = (
  c.requires.fold_accepts x may a h p,
  λ b q k. of_step h may (p.now, q.now, (p, q, refl, k, refl)),
)

pub fold_init_among-requires-clause-reduces : goal.fold_init_among-requires-clause-reduces
fold_init_among-requires-clause-reduces g c κs within a b h k =
    (c.requires.reduce_accepts a b h k, λ r one. of_reduction h k one)
