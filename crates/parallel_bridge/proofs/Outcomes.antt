-- Facts on outcomes.
use Rattle.parallel_bridge.proofs.Common.{Trouble, Closure, OfFault, UnlessRefused, Result, Ok, Err}

-- what holds of each outcome that is allowed holds of this one
pub unless_weaker : {R E : Type 0} (result : Result R (Trouble E)) (P Q : Result R E → Type 0)
    → ((out : Result R E) → P out → Q out) → UnlessRefused result P → UnlessRefused result Q
unless_weaker (Ok r) P Q f h = f (Ok r) h
unless_weaker (Err (Closure e)) P Q f h = f (Err e) h
unless_weaker (Err (OfFault x)) P Q f h = h
