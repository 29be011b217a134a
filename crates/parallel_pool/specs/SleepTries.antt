-- What a try to sleep does with the latch of its worker.
use Rattle.std.specs.Prelude.{◌≡◌, ◌⊎◌, ℕ, zero, suc, true, false, ⊤}
use Rattle.parallel_pool.specs.declared.latch.history.Act.TheVariants.{GetSleepy, FallAsleep, WakeUp, Probe}
use Rattle.parallel_pool.specs.declared.latch.history.View.{View}
use Rattle.parallel_pool.specs.LatchMoves.{is_unset, is_sleepy}
use Rattle.parallel_pool.specs.LatchHistory.{Called}

-- the latch wasn't unset, and nothing more was done
abbrev pub StaysAwake : View → View → Type 0
StaysAwake old new = Called GetSleepy (λ phase. is_unset phase ≡ false) old new

-- the latch got sleepy, and was set before the worker fell asleep
abbrev pub IsKeptAwake : View → View → Type 0
IsKeptAwake old new = (mid : View) × Called GetSleepy (λ phase. is_unset phase ≡ true) old mid
    × Called FallAsleep (λ phase. is_sleepy phase ≡ false) mid new

-- the latch was probed so often, and nothing else was done
abbrev pub ProbesTimes : ℕ → View → View → Type 0
ProbesTimes zero old new = new ≡ old
ProbesTimes (suc n) old new = (mid : View) × ProbesTimes n old mid × Called Probe (λ _. ⊤) mid new

-- the latch was probed, any number of times, and nothing else was done
abbrev pub OnlyProbes : View → View → Type 0
OnlyProbes old new = (n : ℕ) × ProbesTimes n old new

-- the latch fell asleep, was only probed while its worker slept, and at the end its worker woke it
-- up
abbrev pub SleepsAndWakes : View → View → Type 0
SleepsAndWakes old new =
    (mid : View) × (asleep : View) × (last : View)
    × Called GetSleepy (λ phase. is_unset phase ≡ true) old mid
    × Called FallAsleep (λ phase. is_sleepy phase ≡ true) mid asleep
    × OnlyProbes asleep last
    × Called WakeUp (λ _. ⊤) last new

-- What a try to sleep does with its worker's latch, in one of three ways: it wasn't unset, and
-- nothing more was done; or it got sleepy and was set before the worker fell asleep; or it fell
-- asleep, and the worker's last act woke it up.
abbrev pub TriesToSleep : View → View → Type 0
TriesToSleep old new = StaysAwake old new ⊎ IsKeptAwake old new ⊎ SleepsAndWakes old new
