-- The seat stays one of its latch.
use Rattle.parallel_pool.specs.Latch.{IsLatchSeatOf}
use Rattle.pool_tests.proofs.sleepers.idle_for.Given as goal

abbrev pub invariant-loop-round : goal.invariant-loop-round
invariant-loop-round g l = IsLatchSeatOf l.latch l.seat
