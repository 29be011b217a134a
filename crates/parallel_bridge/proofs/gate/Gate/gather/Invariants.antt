-- the one seat, and those that are left
use Rattle.parallel_bridge.proofs.{GateSeat, IsGateSeatOf, known, All, Contains, length, Gathering}
use Rattle.parallel_bridge.proofs.gate.Gate.gather.Given as goal

abbrev pub invariant-loop-seat : goal.invariant-loop-seat
invariant-loop-seat l = record {
  belongs : IsGateSeatOf l.self l.all;
  each : All (IsGateSeatOf l.self) l.seats.items;
  within : (seat : GateSeat) → Contains l.seats.items seat → Contains l.fn.seats.items seat;
  has : Gathering (known l.all) l.seats.items l.fn.seats.items;
}

abbrev pub decreases-loop-seat : goal.decreases-loop-seat
decreases-loop-seat l = length l.seats.items
