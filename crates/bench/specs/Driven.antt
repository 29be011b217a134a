-- What comes back from a seat that was driven.
use Rattle.parallel_shares.specs.declared.shares.seat.Seat.{Seat}
use Rattle.bench.specs.declared.soak.Driven.{Driven}

-- the seat of what came back
abbrev pub seat_of : Driven → Seat
seat_of driven = driven.seat
