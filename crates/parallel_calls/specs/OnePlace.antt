-- the clauses of the calls at one site
use Rattle.std.specs.Prelude.{ℕ, ◌⊎◌, List}
use Rattle.parallel_bridge.specs.declared.path.Path.{Path}
use Rattle.parallel_bridge.specs.declared.path.Path.TheVariants.{Parallel}
use Rattle.parallel_fault.specs.declared.fault.Fault.{Fault}
use Rattle.parallel_policy.specs.declared.Site.{Site}
use Rattle.commonware_parallel.specs.Calls.{body_call}
use Rattle.commonware_parallel.specs.ListCalls.{AskedOver, GoesByLength}
use Rattle.commonware_parallel.specs.declared.call.Call.{Call}
use Rattle.commonware_parallel.specs.declared.call.Pick.{Pick}
use Rattle.commonware_parallel.specs.declared.call.Pick.TheVariants.{By}
use Rattle.parallel_calls.specs.declared.on.On.{On}

module _ {I X Rt S P : Type 0} (gives : I → List X → Type 0) (source : I)
    (takes : S → Site → Call → Pick → Type 0) where
  -- a list that the source may give, and for a body over its length some path may be taken
  abbrev pub AskedOn : (P → Site) → On Rt S P → Type 0
  AskedOn site_of on = AskedOver gives source (takes on.strategy.now (site_of on.site)) body_call

  -- the result went as the way says, over a list that the source may give, by a path that the
  -- strategy may take for a body over its length
  abbrev pub GoesOn : {R : Type 0} → (S → ℕ) → (P → Site) → On Rt S P
      → (ℕ → Path → List X → R → Type 0) → R → Type 0
  GoesOn threads site_of on way answer = GoesByLength gives source takes threads on.strategy.now
      (site_of on.site) body_call way answer

-- the strategy may refuse by that fault, or may take the parallel path, on which memory is needed
abbrev pub RefusesOrForks : (Fault → Type 0) → (Pick → Type 0) → Fault → Type 0
RefusesOrForks refuses takes fault = refuses fault ⊎ takes (By Parallel)
