-- A plan has few shares.
use Rattle.parallel_shares.proofs.{arith, few_shares}
use Rattle.parallel_shares.proofs.shares.Shares.place.Goals as goal

pub place_of-requires : goal.place_of-requires
place_of-requires c =
    omega (arith, c.requires, few_shares c.args.self.now.plan c.args.self.now.sound)
