-- What a broadcast tells its closure.
use Rattle.std.specs.Prelude.{ℕ}
use Rattle.parallel_pool.specs.declared.rayon.broadcast_context.BroadcastContext.{BroadcastContext}

-- what a broadcast closure is told
abbrev pub context : ℕ → ℕ → BroadcastContext
context index num_threads = record { index = index; num_threads = num_threads }

-- the index of the thread for which it stands
abbrev pub index_of : BroadcastContext → ℕ
index_of c = c.index

-- the number of the pool's threads
abbrev pub threads_of : BroadcastContext → ℕ
threads_of c = c.num_threads
