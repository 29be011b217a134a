-- What follows from a fact of an outcome.
use Rattle.commonware_parallel.proofs.Common.{◌≡◌, Result, Ok, Err, IfOk, MatchResult, Memory, Trouble, Closure, UnlessRefused, UnlessFaulty, flat_outcome, subst, sym}
use Rattle.parallel_fault.specs.declared.fault.Fault.{Fault}
use Rattle.parallel_fault.specs.declared.fault.Trouble.TheVariants.{Fault as OfFault}
use Rattle.parallel_fault.specs.Trouble.{IsMemoryOnErr, IsMemoryOnFault}

-- what follows from a fact of an outcome, where more may be refused
pub unless_faulty : {R E : Type 0} (result : Result R (Trouble E)) (P Q : Result R E → Type 0)
    (refused : Fault → Type 0) → ((out : Result R E) → P out → Q out)
    → ((fault : Fault) → fault ≡ Memory → refused fault) → UnlessRefused result P
    → UnlessFaulty result Q refused
unless_faulty (Ok r) P Q refused f w h = f (Ok r) h
unless_faulty (Err (Closure e)) P Q refused f w h = f (Err e) h
unless_faulty (Err (OfFault x)) P Q refused f w h = w x h

-- what holds of an outcome, where its error is told as a closure's
pub closure_told : {R E : Type 0} (out : Result R E) (result : Result R (Trouble E))
    (P : Result R E → Type 0)
    → MatchResult out (λ r. result ≡ Ok r) (λ e. result ≡ Err (Closure e)) → P out
    → UnlessRefused result P
closure_told (Ok r) result P same h = subst (λ x. UnlessRefused x P) (sym same) h
closure_told (Err e) result P same h = subst (λ x. UnlessRefused x P) (sym same) h

-- what follows of an outcome's result
pub told_answer : {R E : Type 0} (result : Result R (Trouble E)) (P : Result R E → Type 0)
    (Q : R → Type 0) → UnlessRefused result P → ((r : R) → P (Ok r) → Q r) → IfOk result Q
told_answer (Ok r) P Q h f = f r h
told_answer (Err (Closure e)) P Q h f = tt
told_answer (Err (OfFault x)) P Q h f = tt

-- a refusal of a call whose closure has an error of its own is one of memory
pub told_memory : {R E : Type 0} (result : Result R (Trouble E)) (P : Result R E → Type 0)
    → UnlessRefused result P → IsMemoryOnFault result
told_memory (Ok r) P h = tt
told_memory (Err (Closure e)) P h = tt
told_memory (Err (OfFault x)) P h = h

-- the same of an outcome whose closure's own error is a refusal, of memory too
module _ {R : Type 0} (P : Result R Fault → Type 0) where
  of_flat : (out : Result R (Trouble Fault)) (Q : R → Type 0) → UnlessRefused out P
      → ((r : R) → P (Ok r) → Q r) → IfOk (flat_outcome out) Q
  of_flat (Ok r) Q h f = f r h
  of_flat (Err (Closure e)) Q h f = tt
  of_flat (Err (OfFault x)) Q h f = tt

  memory_of_flat : (out : Result R (Trouble Fault)) → UnlessRefused out P
      → ((fault : Fault) → P (Err fault) → fault ≡ Memory) → IsMemoryOnErr (flat_outcome out)
  memory_of_flat (Ok r) h f = tt
  memory_of_flat (Err (Closure e)) h f = f e h
  memory_of_flat (Err (OfFault x)) h f = h

pub flat_answer : {R : Type 0} (out : Result R (Trouble Fault)) (result : Result R Fault)
    (P : Result R Fault → Type 0) (Q : R → Type 0) → result ≡ flat_outcome out
    → UnlessRefused out P → ((r : R) → P (Ok r) → Q r) → IfOk result Q
flat_answer out result P Q same h f = subst (λ r. IfOk r Q) (sym same) (of_flat P out Q h f)

pub flat_memory : {R : Type 0} (out : Result R (Trouble Fault)) (result : Result R Fault)
    (P : Result R Fault → Type 0) → result ≡ flat_outcome out → UnlessRefused out P
    → ((fault : Fault) → P (Err fault) → fault ≡ Memory) → IsMemoryOnErr result
flat_memory out result P same h f = subst IsMemoryOnErr (sym same) (memory_of_flat P out h f)
