-- The worker has only probed its latch, and still has a seat of it.
use Rattle.parallel_pool.proofs.{IsLatchSeatOf, known, HasSeenSet, OnlyProbes}
use Rattle.parallel_pool.proofs.sleep.Sleep.park.Given as goal

abbrev pub invariant-loop : goal.invariant-loop
invariant-loop g l = record {
  probes : OnlyProbes (known l.fn.seat) (known l.seat);
  seat : IsLatchSeatOf l.latch l.seat;
  stays : HasSeenSet (known l.fn.seat) → HasSeenSet (known l.seat);
}
