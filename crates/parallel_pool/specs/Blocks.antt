-- What holds after a try to sleep, by its result.
use Rattle.std.specs.Prelude.{ℕ, Option, None, slice_set}
use Rattle.parallel_pool.specs.declared.sleep.sleep_state.Block.{Block}
use Rattle.parallel_pool.specs.declared.sleep.sleep_state.Block.TheVariants.{Changed, Injected, Blocked}
use Rattle.parallel_pool.specs.declared.sleep.standing.Standing.TheVariants.{Sleeping}
use Rattle.parallel_pool.specs.Sleepers.{Sleepers}

-- a worker that is blocked sleeps; else nothing changes
abbrev pub state_after : Block → ℕ → Sleepers → Sleepers
state_after Changed worker state = state
state_after Injected worker state = state
state_after Blocked worker state =
    record {
      events = state.events;
      workers = slice_set state.workers worker Sleeping;
      woken = state.woken;
    }

-- the round in which the worker goes on: it announces itself again, starts again, or stays where it
-- is
abbrev pub rounds_after : Block → ℕ → ℕ
rounds_after Changed rounds = 32
rounds_after Injected rounds = 0
rounds_after Blocked rounds = rounds

-- a worker that doesn't sleep forgets the events that it found
abbrev pub recorded_after : Block → Option ℕ → Option ℕ
recorded_after Changed recorded = None
recorded_after Injected recorded = None
recorded_after Blocked recorded = recorded
