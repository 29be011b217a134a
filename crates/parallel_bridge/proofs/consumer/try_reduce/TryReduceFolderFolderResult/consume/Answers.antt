-- The reduction stays among the values.
use Rattle.parallel_bridge.proofs.{IfOk, subst}
use Rattle.parallel_bridge.proofs.consumer.try_reduce.TryReduceFolderFolderResult.consume.Goals as goal

pub returns-in-Ok-Ok-clause-ready : goal.returns-in-Ok-Ok-clause-ready
returns-in-Ok-Ok-clause-ready g c =
    let has = g.D.Domain.has in let closed = c.requires.ready.1 in let both = c.in-Ok-Ok in
    let one = subst (λ v. IfOk v (λ u. has u)) both.is-0 c.requires.ready.0 in
    let other = subst (λ v. IfOk v (λ u. has u)) both.is-1 c.requires.item in
    ((closed both.left both.right one other).1 c.reduce_op.result c.reduce_op.ensures, closed)
