-- What is said of a refusal, and of an error that a closure has of its own.
use Rattle.std.specs.Prelude.{◌≡◌, Option, Some, None, Result, Err, Ok, IfErr}
use Rattle.parallel_fault.specs.declared.fault.Fault.{Fault}
use Rattle.parallel_fault.specs.declared.fault.Trouble.{Trouble}
use Rattle.std.specs.declared.io.ErrorKind.{ErrorKind}
use Rattle.std.specs.declared.io.ErrorKind.TheVariants.{OutOfMemory, Other}
use Rattle.parallel_fault.specs.declared.fault.Fault.TheVariants.{Memory, Worker, HandOff}
use Rattle.parallel_fault.specs.declared.fault.Trouble.TheVariants.{Closure}
use Rattle.parallel_fault.specs.declared.fault.Trouble.TheVariants.{Fault as OfFault}

-- a fact of the closure's error, where the trouble is one
abbrev pub IfClosure : {E : Type 0} → Trouble E → (E → Type 0) → Type 0
IfClosure (Closure e) P = P e
IfClosure (OfFault f) P = Unit {0}

-- a fact of the refusal, where the trouble is one
abbrev pub IfFault : {E : Type 0} → Trouble E → (Fault → Type 0) → Type 0
IfFault (Closure e) P = Unit {0}
IfFault (OfFault f) P = P f

-- no fault but `Memory`
abbrev pub IsMemoryOnErr : {T : Type 0} → Result T Fault → Type 0
IsMemoryOnErr (Ok _) = Unit {0}
IsMemoryOnErr (Err f) = f ≡ Memory

-- no fault but `Memory`, where the closure may have an error of its own
abbrev pub IsMemoryOnFault : {T E : Type 0} → Result T (Trouble E) → Type 0
IsMemoryOnFault result = IfErr result (λ trouble. IfFault trouble (λ fault. fault ≡ Memory))

-- nothing where a call has a result, the closure's error where that stopped it, and otherwise the
-- refusal
abbrev pub IsStop : {R E : Type 0} → Result R (Trouble E) → Result (Option E) Fault → Type 0
IsStop (Ok _) stop = stop ≡ Ok None
IsStop (Err (Closure e)) stop = stop ≡ Ok (Some e)
IsStop (Err (OfFault f)) stop = stop ≡ Err f

-- the kind of the `io::Error` that a fault becomes
abbrev pub fault_kind : Fault → ErrorKind
fault_kind Memory = OutOfMemory
fault_kind Worker = Other
fault_kind HandOff = Other
