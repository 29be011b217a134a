-- what a call returns, by what its body was told
use Rattle.std.specs.Prelude.{Result, Ok, Err}
use Rattle.parallel_bridge.specs.declared.path.Path.{Path}
use Rattle.parallel_bridge.specs.declared.path.Path.TheVariants.{Serial, Parallel}
use Rattle.parallel_fault.specs.declared.fault.Fault.{Fault}
use Rattle.parallel_fault.specs.declared.fault.Trouble.{Trouble}
use Rattle.parallel_fault.specs.declared.fault.Trouble.TheVariants.{Closure}
use Rattle.parallel_fault.specs.declared.fault.Trouble.TheVariants.{Fault as OfFault}

-- a result, or an error of the body's own, that the body allows where it is told what it may be
-- told; or a refusal that may be met
abbrev pub AnswersAs : {Told R E : Type 0} → (Told → Type 0) → (Fault → Type 0)
    → (Told → Result R E → Type 0) → Result R (Trouble E) → Type 0
AnswersAs {Told = Told} may refuses allowed (Ok r) = (told : Told) × may told × allowed told (Ok r)
AnswersAs {Told = Told} may refuses allowed (Err (Closure e)) = (told : Told) × may told
    × allowed told (Err e)
AnswersAs may refuses allowed (Err (OfFault f)) = refuses f

-- the first serially, the second in parallel
abbrev pub OneOf : Type 0 → Type 0 → Path → Type 0
OneOf serial parallel Serial = serial
OneOf serial parallel Parallel = parallel

-- a result of the first body serially, of the second in parallel
abbrev pub OfOne : {R : Type 0} → (R → Type 0) → (R → Type 0) → Path → R → Type 0
OfOne serial parallel path answer = OneOf (serial answer) (parallel answer) path

-- allowed holds of the result, or of the closure's error, and refused of a refusal
abbrev pub UnlessFaulty : {R E : Type 0} → Result R (Trouble E) → (Result R E → Type 0)
    → (Fault → Type 0) → Type 0
UnlessFaulty (Ok r) allowed refused = allowed (Ok r)
UnlessFaulty (Err (Closure e)) allowed refused = allowed (Err e)
UnlessFaulty (Err (OfFault f)) allowed refused = refused f

-- the outcome of a call whose closure's own error is a refusal: either refusal is the error
abbrev pub flat_outcome : {R : Type 0} → Result R (Trouble Fault) → Result R Fault
flat_outcome (Ok r) = Ok r
flat_outcome (Err (Closure fault)) = Err fault
flat_outcome (Err (OfFault fault)) = Err fault
