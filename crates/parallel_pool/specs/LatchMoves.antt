-- The phases of a core latch, how a call moves them, and what it returns.
use Rattle.std.specs.Prelude.{ℕ, Bool, true, false, List, [], ◌∷◌}
use Rattle.parallel_pool.specs.declared.latch.history.Act.{Act}
use Rattle.parallel_pool.specs.declared.latch.history.Act.TheVariants.{GetSleepy, FallAsleep, WakeUp, Set, Probe}
use Rattle.parallel_pool.specs.declared.latch.history.Call.{Call}

-- the four phases of a core latch: its worker is awake, about to sleep, asleep; or the latch is
-- set, for good
pub data Phase : Type 0 where
  unset : Phase
  sleepy : Phase
  sleeping : Phase
  latched : Phase

-- the word that stands for a phase
abbrev pub word_of : Phase → ℕ
word_of unset = 0
word_of sleepy = 1
word_of sleeping = 2
word_of latched = 3

-- getting sleepy moves an unset latch and no other
abbrev pub after_get_sleepy : Phase → Phase
after_get_sleepy unset = sleepy
after_get_sleepy sleepy = sleepy
after_get_sleepy sleeping = sleeping
after_get_sleepy latched = latched

-- falling asleep moves a sleepy latch and no other
abbrev pub after_fall_asleep : Phase → Phase
after_fall_asleep unset = unset
after_fall_asleep sleepy = sleeping
after_fall_asleep sleeping = sleeping
after_fall_asleep latched = latched

-- waking up moves a sleeping latch and no other
abbrev pub after_wake_up : Phase → Phase
after_wake_up unset = unset
after_wake_up sleepy = sleepy
after_wake_up sleeping = unset
after_wake_up latched = latched

-- The phase after a call: getting sleepy moves unset to sleepy, falling asleep sleepy to sleeping,
-- waking up sleeping to unset, and a set each phase to latched, which is for good. Any other phase
-- stays, and a probe moves none.
abbrev pub moved : Act → Phase → Phase
moved GetSleepy phase = after_get_sleepy phase
moved FallAsleep phase = after_fall_asleep phase
moved WakeUp phase = after_wake_up phase
moved Set phase = latched
moved Probe phase = phase

-- whether the latch is unset
abbrev pub is_unset : Phase → Bool
is_unset unset = true
is_unset sleepy = false
is_unset sleeping = false
is_unset latched = false

-- whether the worker is about to sleep
abbrev pub is_sleepy : Phase → Bool
is_sleepy unset = false
is_sleepy sleepy = true
is_sleepy sleeping = false
is_sleepy latched = false

-- whether the worker is asleep
abbrev pub is_sleeping : Phase → Bool
is_sleeping unset = false
is_sleeping sleepy = false
is_sleeping sleeping = true
is_sleeping latched = false

-- whether the latch is set
abbrev pub is_latched : Phase → Bool
is_latched unset = false
is_latched sleepy = false
is_latched sleeping = false
is_latched latched = true

-- the phase to which a history leads from a phase
abbrev pub phase_from : Phase → List Call → Phase
phase_from phase [] = phase
phase_from phase (call ∷ calls) = phase_from (moved call.act phase) calls

-- the phase to which a history leads
abbrev pub phase_after : List Call → Phase
phase_after calls = phase_from unset calls
