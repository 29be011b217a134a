-- What is said of the parts of a list where a gate may stop a segment.
use Rattle.std.specs.Prelude.{◌≡◌, ℕ, ◌+◌, ◌<◌, ◌≤◌, All, Result, Ok, Err}
use Rattle.parallel_fault.specs.declared.fault.Trouble.{Trouble}
use Rattle.parallel_fault.specs.declared.fault.Trouble.TheVariants.{Closure}
use Rattle.parallel_fault.specs.declared.fault.Trouble.TheVariants.{Fault as OfFault}
use Rattle.parallel_bridge.specs.declared.gate.seat.GateView.{GateView}
use Rattle.parallel_bridge.specs.declared.halt.Halt.{Halt}
use Rattle.parallel_bridge.specs.declared.halt.Halt.TheVariants.{Failed, Stopped}

-- what may be given, where a stop may stand in the place of anything
abbrev pub halting : {A R E : Type 0} → (A → Result R E → Type 0) → A → Result R (Halt E) → Type 0
halting allowed a (Ok r) = allowed a (Ok r)
halting allowed a (Err (Failed e)) = allowed a (Err e)
halting allowed a (Err Stopped) = Unit {0}

-- and where no stop may be given
abbrev pub unstopped : {A R E : Type 0} → (A → Result R E → Type 0) → A → Result R (Halt E) → Type 0
unstopped allowed a (Ok r) = allowed a (Ok r)
unstopped allowed a (Err (Failed e)) = allowed a (Err e)
unstopped allowed a (Err Stopped) = ⊥

-- the outcome isn't that of a segment that was stopped
abbrev pub NotStopped : {R E : Type 0} → Result R (Trouble (Halt E)) → Type 0
NotStopped (Ok r) = Unit {0}
NotStopped (Err (Closure (Failed e))) = Unit {0}
NotStopped (Err (Closure Stopped)) = ⊥
NotStopped (Err (OfFault f)) = Unit {0}

-- the same outcome, which no gate can stop
abbrev pub IsUnhalted : {R E : Type 0} → Result R (Trouble (Halt E)) → Result R (Trouble E)
    → Type 0
IsUnhalted (Ok r) out = out ≡ Ok r
IsUnhalted (Err (Closure (Failed e))) out = out ≡ Err (Closure e)
IsUnhalted (Err (Closure Stopped)) out = ⊥
IsUnhalted (Err (OfFault f)) out = out ≡ Err (OfFault f)

-- some segment of the part was stopped: a word less than its start was seen, and no start less than
-- it was told
abbrev pub StoppedWithin : ℕ → ℕ → GateView → Type 0
StoppedWithin start count v = (at : ℕ) × (at ≤ start + count) × (v.least < at)
    × All (λ told. at ≤ told) v.told
