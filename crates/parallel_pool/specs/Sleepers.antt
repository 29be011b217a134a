-- A sleep state, as contracts see it.
use Rattle.std.specs.Prelude.{ℕ, List}
use Rattle.parallel_pool.specs.declared.sleep.standing.Standing.{Standing}

-- the count of events, where each worker stands, and whom the last call woke that wakes workers,
-- lowest index first
pub record Sleepers : Type 0 where
  pub events : ℕ
  pub workers : List Standing
  pub woken : List ℕ
