-- The seat stays one of its latch.
use Rattle.parallel_pool.specs.Latch.{IsLatchSeatOf}
use Rattle.pool_tests.proofs.sleepers.idles.Given as goal

abbrev pub invariant-loop : goal.invariant-loop
invariant-loop g l = IsLatchSeatOf l.latch l.seat
