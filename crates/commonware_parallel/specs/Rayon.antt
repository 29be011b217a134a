-- what is seen of a strategy over a pool, and the picks that it takes
use Rattle.std.specs.Prelude.{◌≡◌, ◌≢◌, ℕ, ◌<◌, ◌≤◌, Bool, true, false, ◌⊎◌, Option}
use Rattle.std.specs.Option.{is_some}
use Rattle.parallel_fault.specs.declared.fault.Fault.{Fault}
use Rattle.parallel_fault.specs.declared.fault.Fault.TheVariants.{Memory}
use Rattle.parallel_policy.specs.declared.policy.Policy.{Policy}
use Rattle.commonware_parallel.specs.declared.call.Call.{Call}
use Rattle.commonware_parallel.specs.declared.call.Kind.TheVariants.{Join, Spawn}
use Rattle.commonware_parallel.specs.declared.call.Pick.{Pick}
use Rattle.commonware_parallel.specs.Calls.{first_pick, last_pick, options_of}

-- what is seen of a Rayon: the planning number, by which serial and parallel are told apart, and
-- batches and tiles are cut; the thread number of the pool, by which lists are halved; the policy
-- that chooses between serial and parallel, if one does; and whether a job that is handed off gets
-- a worker
pub record RayonView : Type 0 where
  pub planning : ℕ
  pub threads : ℕ
  pub policy : Option Policy
  pub starts : Bool

-- whether a policy chooses between serial and parallel
abbrev pub chooses_of : RayonView → Bool
chooses_of strategy = is_some strategy.policy

-- planned for that many, over a pool of that many threads, whose picks a policy chooses
abbrev pub IsMade : ℕ → ℕ → Bool → RayonView → Type 0
IsMade planning threads starts strategy = (strategy.planning ≡ planning)
    × (strategy.threads ≡ threads) × (strategy.starts ≡ starts) × (chooses_of strategy ≡ true)

-- planned for one, the first pick; planned for more, the last one, or the first or the last where a
-- policy chooses
abbrev pub PlansTo : ℕ → Bool → Call → Pick → Type 0
PlansTo planned chooses call pick =
    (planned ≤ 1 → pick ≡ first_pick call) × (1 < planned → chooses ≡ false → pick ≡ last_pick call)
    × ((pick ≡ first_pick call) ⊎ (pick ≡ last_pick call))

-- Its picks. A join takes the last one. A spawned job goes by the thread number, and every other
-- call by the planning number: if that is 1 the first pick is taken; if it is more, the last one,
-- or with a policy the first or the last.
abbrev pub RayonTakes : RayonView → Call → Pick → Type 0
RayonTakes strategy call pick =
    (call.kind ≡ Join → pick ≡ last_pick call)
    × (call.kind ≡ Spawn → PlansTo strategy.threads (chooses_of strategy) call pick)
    × (call.kind ≢ Join → call.kind ≢ Spawn
    → PlansTo strategy.planning (chooses_of strategy) call pick)

-- A refusal for memory, if a policy chooses; not of a join, and only if the call has two picks or
-- more.
abbrev pub RayonRefuses : RayonView → Call → Fault → Type 0
RayonRefuses strategy call fault = (fault ≡ Memory) × (chooses_of strategy ≡ true)
    × (call.kind ≢ Join) × (2 ≤ options_of call)
