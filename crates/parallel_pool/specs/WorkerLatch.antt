-- The parts of a latch that says which worker to wake, as contracts name them.
use Rattle.std.specs.Prelude.{ℕ}
use Rattle.parallel_pool.specs.declared.latch.core_latch.CoreLatch.{CoreLatch}
use Rattle.parallel_pool.specs.declared.latch.worker_latch.WorkerLatch.{WorkerLatch}

-- the core latch under the latch
abbrev pub core_of : {K : Type 0} → WorkerLatch K → CoreLatch
core_of latch = latch.core_latch

-- the index of the worker that waits for the latch
abbrev pub target_of : {K : Type 0} → WorkerLatch K → ℕ
target_of latch = latch.target_worker_index
