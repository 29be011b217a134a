-- The seats so far, and all of their results.
use Rattle.commonware_parallel.proofs.{◌≡◌, map, AllResults, seat_of}
use Rattle.commonware_parallel.proofs.tiles.seats.gather.Given as goal

abbrev pub invariant-loop-part : goal.invariant-loop-part
invariant-loop-part g l = record {
  seats : l.seats.items ≡ map seat_of l.yielded;
  results : AllResults l.yielded l.all.items;
}
