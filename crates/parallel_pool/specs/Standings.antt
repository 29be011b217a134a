-- The standings of all workers: who is blocked, who is inactive, who is woken.
use Rattle.std.specs.Prelude.{◌≡◌, ℕ, Bool, true, false, List, length, count_by, filter, slice_index_or, Contains, ◌+◌, ◌%◌, ◌^◌, ◌==◌, if◌then◌else◌}
use Rattle.std.specs.List.{range_with_len}
use Rattle.parallel_pool.specs.declared.sleep.standing.Standing.{Standing}
use Rattle.parallel_pool.specs.declared.sleep.standing.Standing.TheVariants.{Working, Looking, Sleeping}

-- whether a worker of this standing is blocked: it sleeps
abbrev pub is_blocked : Standing → Bool
is_blocked Working = false
is_blocked Looking = false
is_blocked Sleeping = true

-- whether a worker of this standing is inactive: it looks for work or sleeps
abbrev pub is_inactive : Standing → Bool
is_inactive Working = false
is_inactive Looking = true
is_inactive Sleeping = true

-- whether a worker of this standing looks for work: it is inactive and not blocked
abbrev pub is_looking : Standing → Bool
is_looking Working = false
is_looking Looking = true
is_looking Sleeping = false

-- the standing of a worker; one that doesn't exist counts as working
abbrev pub standing_at : List Standing → ℕ → Standing
standing_at workers worker = slice_index_or workers worker Working

-- how many workers are blocked
abbrev pub sleeping_in : List Standing → ℕ
sleeping_in workers = count_by is_blocked workers

-- how many workers are inactive
abbrev pub inactive_in : List Standing → ℕ
inactive_in workers = count_by is_inactive workers

-- how many workers are awake and look for work
abbrev pub looking_in : List Standing → ℕ
looking_in workers = count_by is_looking workers

-- the workers that are blocked, lowest index first
abbrev pub blocked_of : List Standing → List ℕ
blocked_of workers =
    filter (λ worker. is_blocked (standing_at workers worker)) (range_with_len 0 (length workers))

-- the workers of a list are woken: they look for work again, and every other worker stands as
-- before
pub record AreWoken (woken : List ℕ) (before after : List Standing) : Type 0 where
  pub as_many : length after ≡ length before
  pub looking : (worker : ℕ) → Contains woken worker → standing_at after worker ≡ Looking
  pub others : (worker : ℕ) → (Contains woken worker → ⊥)
      → standing_at after worker ≡ standing_at before worker

-- the count of events after one more, which wraps at 32 bits
abbrev pub event_after : ℕ → ℕ
event_after events = (events + 1) % 2 ^ 32

-- whether the events say that a worker is sleepy: they are even
abbrev pub is_sleepy_event : ℕ → Bool
is_sleepy_event events = events % 2 == 0

-- the events after a worker has announced that it is sleepy, which are even
abbrev pub events_announced : ℕ → ℕ
events_announced events = if is_sleepy_event events then events else event_after events

-- the events after jobs have come, which are odd
abbrev pub events_of_jobs : ℕ → ℕ
events_of_jobs events = if is_sleepy_event events then event_after events else events
