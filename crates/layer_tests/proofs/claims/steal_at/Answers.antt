-- The seat that took the step is back in its place.
use Rattle.std.proofs.Common.{rules}
use Rattle.parallel_shares.proofs.GatherSeats.{seats_stepped}
use Rattle.layer_tests.proofs.claims.steal_at.Goals as goal

pub returns : goal.returns
returns g c =
    seats_stepped c.args.shares.now c.args.seats.now.items c.args.index c.index_mut-seat.result.now
    c.try_steal-tried.new.seat c.requires (search rules)
    (search rules) c.try_steal-tried.ensures.seat c.try_steal-tried.ensures.index
