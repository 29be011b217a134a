-- The law, at the relation of the closure.
use Rattle.commonware_parallel.proofs.{one_root}
use Rattle.commonware_parallel.proofs.merkle.law.root_law.Goals as goal

pub returns : goal.returns
returns g c one_answer leaves one other h k =
    one_root (λ a b n. g.F.Fn.post c.args.combine.now (a, (b, tt)) n) one_answer leaves one other
    h k
