-- what is seen of an explorer, and the picks that it takes
use Rattle.std.specs.Prelude.{◌≡◌, ℕ, Bool, nat_le, if◌then◌else◌}
use Rattle.parallel_fault.specs.declared.fault.Fault.{Fault}
use Rattle.parallel_fault.specs.declared.fault.Fault.TheVariants.{HandOff}
use Rattle.parallel_policy.specs.declared.Site.{Site}
use Rattle.commonware_parallel.specs.declared.call.Call.{Call}
use Rattle.commonware_parallel.specs.declared.call.Kind.{Kind}
use Rattle.commonware_parallel.specs.declared.call.Kind.TheVariants.{Body, Batches, Tiles, Spawn, Join}
use Rattle.commonware_parallel.specs.declared.call.Pick.{Pick}
use Rattle.commonware_parallel.specs.Calls.{first_pick, last_pick, nth_pick, options_of}
use Rattle.commonware_parallel.specs.declared.mocks.rule.Rule.{Rule}
use Rattle.commonware_parallel.specs.Mixes.{pick_of}
use Rattle.commonware_parallel.specs.Rayon.{RayonView}

-- what is seen of an explorer: the planning number, the thread number of the pool, by which lists
-- are halved, by what it picks, and whether a job that is handed off gets a worker
pub record ExplorerView : Type 0 where
  pub planning : ℕ
  pub threads : ℕ
  pub rule : Rule
  pub starts : Bool

-- an explorer over a strategy's pool and planned as it is, by a rule
abbrev pub explorer_of : RayonView → Rule → ExplorerView
explorer_of strategy rule = record {
  planning = strategy.planning;
  threads = strategy.threads;
  rule = rule;
  starts = strategy.starts;
}

-- which of its picks a call is given: a body that is planned for one the first, all else the one
-- that the rule says
abbrev pub index_as : Kind → ℕ → ℕ → ℕ
index_as Body planned index = if nat_le planned 1 then 0 else index
index_as Batches planned index = index
index_as Tiles planned index = index
index_as Spawn planned index = index
index_as Join planned index = index

-- the pick of a call
abbrev pub picked : ExplorerView → Site → Call → Pick
picked explorer site call =
    nth_pick call (index_as call.kind explorer.planning
    (pick_of explorer.rule site call.len (options_of call)))

-- that pick alone; a job isn't handed off to a pool of one thread
abbrev pub ExplorerTakes : ExplorerView → Site → Call → Pick → Type 0
ExplorerTakes explorer site call pick = (pick ≡ picked explorer site call)
    × (call.kind ≡ Spawn → explorer.threads ≡ 1 → pick ≡ first_pick call)

-- a job that the rule hands off, where the pool has one thread
abbrev pub ExplorerRefuses : ExplorerView → Site → Call → Fault → Type 0
ExplorerRefuses explorer site call fault = (call.kind ≡ Spawn) × (fault ≡ HandOff)
    × (explorer.threads ≡ 1) × (picked explorer site call ≡ last_pick call)
