-- At which path and call a list call's fact holds.
use Rattle.commonware_parallel.proofs.Common.{◌≡◌, ℕ, List, length, Result, Ok, Err, IfOk, subst, Trouble, Closure, UnlessRefused, Path, AtSomePath, Call, Pick, By}
use Rattle.parallel_fault.specs.declared.fault.Trouble.TheVariants.{Fault as OfFault}

module _ (call_of : ℕ → Call) (call : Call) (takes : Call → Pick → Type 0) (path : Path)
    {X : Type 0} {came comes : List X → Type 0} (chosen : takes call (By path))
    (given : (xs : List X) → came xs → (call ≡ call_of (length xs)) × comes xs) where
  -- what holds of a list that came holds of one of the source, at the call over its length
  at_length : (way : Path → Type 0) (xs : List X) → came xs → way path
      → comes xs × AtSomePath (takes (call_of (length xs))) way
  at_length way xs h fact = let at = given xs h in
      (at.1, (path, subst (λ c. takes c (By path)) at.0 chosen, fact))

  -- so does what a call by that path says
  pub along_source : {R E : Type 0} {said : List X → R → Type 0}
      (way : Path → List X → R → Type 0) (result : Result R E)
      → ((xs : List X) (y : R) → said xs y → way path xs y)
      → IfOk result (λ y. (xs : List X) × came xs × said xs y)
      → IfOk result (λ y. (xs : List X) × comes xs × AtSomePath (takes (call_of (length xs)))
      (λ p. way p xs y))
  along_source way (Ok y) says w =
      let at = at_length (λ p. way p w.0 y) w.0 w.1 (says w.0 y w.2) in (w.0, at.0, at.1)
  along_source way (Err e) says w = tt

  -- the same of an outcome
  pub outcome_along_source : {R E : Type 0} {said : List X → Result R E → Type 0}
      (way : Path → List X → Result R E → Type 0) (result : Result R (Trouble E))
      → ((xs : List X) (out : Result R E) → said xs out → way path xs out)
      → UnlessRefused result (λ out. (xs : List X) × came xs × said xs out)
      → UnlessRefused result (λ out. (xs : List X) × comes xs
      × AtSomePath (takes (call_of (length xs))) (λ p. way p xs out))
  outcome_along_source way (Ok r) says w =
      let at = at_length (λ p. way p w.0 (Ok r)) w.0 w.1 (says w.0 (Ok r) w.2) in
      (w.0, at.0, at.1)
  outcome_along_source way (Err (Closure e)) says w =
      let at = at_length (λ p. way p w.0 (Err e)) w.0 w.1 (says w.0 (Err e) w.2) in
      (w.0, at.0, at.1)
  outcome_along_source way (Err (OfFault f)) says w = w

-- what a call says of the list that came of a source's iterator it says of one of the source
pub over_source : {X R E : Type 0} {came comes : List X → Type 0} {said says : List X → R → Type 0}
    (result : Result R E) → IfOk result (λ y. (xs : List X) × came xs × said xs y)
    → ((xs : List X) → came xs → comes xs)
    → ((xs : List X) (y : R) → said xs y → says xs y)
    → IfOk result (λ y. (xs : List X) × comes xs × says xs y)
over_source (Ok y) w given weaker = (w.0, given w.0 w.1, weaker w.0 y w.2)
over_source (Err e) w given weaker = tt

-- the same of an outcome
pub outcome_over_source : {X R E : Type 0} {came comes : List X → Type 0}
    {said says : List X → Result R E → Type 0} (result : Result R (Trouble E))
    → UnlessRefused result (λ out. (xs : List X) × came xs × said xs out)
    → ((xs : List X) → came xs → comes xs)
    → ((xs : List X) (out : Result R E) → said xs out → says xs out)
    → UnlessRefused result (λ out. (xs : List X) × comes xs × says xs out)
outcome_over_source (Ok r) w given weaker = (w.0, given w.0 w.1, weaker w.0 (Ok r) w.2)
outcome_over_source (Err (Closure e)) w given weaker =
    (w.0, given w.0 w.1, weaker w.0 (Err e) w.2)
outcome_over_source (Err (OfFault f)) w given weaker = w
