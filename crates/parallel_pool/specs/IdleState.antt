-- What contracts read of an idle worker.
use Rattle.std.specs.Prelude.{ℕ, Option}
use Rattle.parallel_pool.specs.declared.sleep.idle_state.IdleState.{IdleState}

-- the index of the idle worker
abbrev pub worker_of : IdleState → ℕ
worker_of idle = idle.worker_index

-- the round that the worker is in
abbrev pub rounds_of : IdleState → ℕ
rounds_of idle = idle.rounds

-- the events that the worker found when it announced itself
abbrev pub recorded_of : IdleState → Option ℕ
recorded_of idle = idle.recorded
