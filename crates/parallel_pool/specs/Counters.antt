-- The three counts of a pool's sleep.
use Rattle.std.specs.Prelude.{ℕ}
use Rattle.parallel_pool.specs.declared.sleep.counters.Counters.{Counters}

-- how many workers sleep
abbrev pub sleeping_of : Counters → ℕ
sleeping_of counters = counters.sleeping

-- how many workers are inactive
abbrev pub inactive_of : Counters → ℕ
inactive_of counters = counters.inactive

-- the count of events
abbrev pub events_of : Counters → ℕ
events_of counters = counters.events
