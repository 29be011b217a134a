-- The open stretch gets its result.
use Rattle.parallel_shares.proofs.{refl}
use Rattle.parallel_shares.proofs.shares.run.finish_open.Goals as goal

pub returns-in_ok-push-clause-closes : goal.returns-in_ok-push-clause-closes
returns-in_ok-push-clause-closes g c =
    rw c.in-Some.is (
      c.finish.result,
      (_, _, refl, rw c.of.ensures at c.finish.ensures, refl),
      c.in_ok-push.ensures.items,
    )

pub finish-requires : goal.finish-requires
finish-requires g c = let asks = rw c.in-Some.is at c.requires in rw c.of.ensures (asks _)
