-- What a search through the rules returns.
use Rattle.std.specs.Prelude.{◌≡◌, ℕ, List, [], ◌∷◌, ◌++◌, Bool, true, false, Result, Ok, Err}
use Rattle.std.specs.Borrow.{Bor}
use Rattle.parallel_pool.specs.declared.rayon.build_error.ThreadPoolBuildError.TheVariants.{Memory}
use Rattle.commonware_parallel.specs.declared.mocks.explore_error.ExploreError.{ExploreError}
use Rattle.commonware_parallel.specs.declared.mocks.explore_error.ExploreError.TheVariants.{Differs, Build}
use Rattle.commonware_parallel.specs.declared.mocks.explorer.Explorer.{Explorer}
use Rattle.commonware_parallel.specs.declared.mocks.rule.Rule.{Rule}
use Rattle.commonware_parallel.specs.declared.mocks.rule.Rule.TheVariants.{Serial, Parallel, Seeded}

-- an explorer by this rule over that many threads, planned for 8, whose jobs get workers
abbrev pub IsExplorer : ℕ → Rule → Explorer → Type 0
IsExplorer workers rule explorer = (explorer.threads ≡ workers) × (explorer.planning ≡ 8)
    × (explorer.rule ≡ rule) × (explorer.starts ≡ true)

-- the rules after the serial one, in their order
abbrev pub rules_behind : List Rule
rules_behind = Parallel ∷ Seeded 0 ∷ Seeded 1 ∷ Seeded 2 ∷ Seeded 3 ∷ []

module _ {F R : Type 0} (step : F → Bor Explorer → R → F → Type 0) (eq : R → R → Bool) where
  -- from f a run by this rule, over 4 threads, gives r and leaves g
  abbrev pub RunsBy : Rule → F → R → F → Type 0
  RunsBy rule f r g = (explorer : Bor Explorer) × IsExplorer 4 rule explorer.now
      × step f explorer r g

  -- a run by this rule gives an equal output, or one that isn't
  abbrev pub Compares : R → Rule → F → F → Result (Unit {0}) ExploreError → Type 0
  Compares serial rule f g (Ok _) = (r : R) × RunsBy rule f r g × (eq r serial ≡ true)
  Compares serial rule f g (Err (Differs other)) = (other ≡ rule) × (r : R) × RunsBy rule f r g
      × (eq r serial ≡ false)
  Compares serial rule f g (Err (Build error)) = error ≡ Memory

  -- runs by these rules, one after another, give equal outputs
  abbrev pub Agree : R → List Rule → F → F → Type 0
  Agree serial [] f g = f ≡ g
  Agree serial (rule ∷ rules) f g = (r : R) × (h : F) × RunsBy rule f r h × (eq r serial ≡ true)
      × Agree serial rules h g

  -- The closure is called with an explorer of each rule in turn, over 4 threads and planned for 8.
  -- The serial output is returned if the runs by all other rules give equal ones; else the first
  -- rule whose run gave another one, after which the closure isn't called again.
  abbrev pub Explored : F → Result R ExploreError → Type 0
  Explored f (Ok serial) = (g h : F) × RunsBy Serial f serial g × Agree serial rules_behind g h
  Explored f (Err (Differs rule)) = (serial r : R) × (g h i : F) × (before after : List Rule)
      × (rules_behind ≡ before ++ (rule ∷ after))
      × RunsBy Serial f serial g × Agree serial before g h × RunsBy rule h r i
      × (eq r serial ≡ false)
  Explored f (Err (Build error)) = error ≡ Memory
