-- The share that a seat claims from exists.
use Rattle.parallel_shares.proofs.{arith, share_exists}
use Rattle.parallel_shares.proofs.shares.Shares.own_place.Goals as goal

pub place-requires : goal.place-requires
place-requires c =
    omega (
      arith,
      c.share_of.ensures,
      share_exists c.args.self.now.plan c.args.seat.now.index c.requires.index,
    )
