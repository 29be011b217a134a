-- Sums of the numbers below 100 through an explorer, and what a search returns.
use Rattle.std.proofs.Common.{◌≡◌, ◌+◌, ◌%◌, ◌^◌, ◌∙◌, ℕ, Bool, List, [], ◌∷◌, Result, Ok, Err, ap, sym, fold}
use Rattle.std.specs.Prelude.{IfOk}
use Rattle.std.specs.Borrow.{Bor}
use Rattle.parallel_bridge.specs.Lists.{Chain}
use Rattle.commonware_parallel.specs.Exploring.{Explored, RunsBy}
use Rattle.commonware_parallel.specs.declared.mocks.explore_error.ExploreError.{ExploreError}
use Rattle.commonware_parallel.specs.declared.mocks.explorer.Explorer.{Explorer}
use Rattle.commonware_parallel.specs.declared.mocks.rule.Rule.TheVariants.{Serial}

-- a number more, wrapped around
abbrev pub adds : ℕ → ℕ → ℕ
adds a x = (a + x) % 2 ^ 64

-- a chain of steps that add is the fold by them
pub chain_adds : (step : ℕ → ℕ → ℕ → Type 0) → ((a x b : ℕ) → step a x b → b ≡ adds a x)
    → (xs : List ℕ) (a r : ℕ) → Chain step a xs r → r ≡ fold adds a xs
chain_adds step is [] a r same = sym same
chain_adds step is (x ∷ xs) a r (m, stepped, rest) = chain_adds step is xs m r rest
    ∙ ap (λ n. fold adds n xs) (is a x m stepped)

-- what a search returns is what a run by the serial rule gave
pub serial_output : {F R : Type 0} (step : F → Bor Explorer → R → F → Type 0) (eq : R → R → Bool)
    (run : F) (result : Result R ExploreError) → Explored step eq run result
    → IfOk result (λ r. (g : F) × RunsBy step eq Serial run r g)
serial_output step eq run (Ok r) told = (told.0, told.2)
serial_output step eq run (Err e) told = tt
