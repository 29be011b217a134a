-- What contracts read of a pool.
use Rattle.std.specs.Prelude.{ℕ}
use Rattle.std.specs.NonZero.{non_zero_usize_get}
use Rattle.parallel_pool.specs.declared.rayon.thread_pool.ThreadPool.{ThreadPool}

-- the number of a pool's threads, which is 1 to 65535
abbrev pub thread_count : {W : Type 0} → ThreadPool W → ℕ
thread_count pool = non_zero_usize_get pool.num_threads

-- the label of a pool, by which its workers are known
abbrev pub label_of : {W : Type 0} → ThreadPool W → ℕ
label_of pool = pool.label
