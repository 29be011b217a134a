-- the calls that a strategy is asked to choose for
use Rattle.std.specs.Prelude.{◌≡◌, ◌≢◌, ℕ, zero, suc, ◌<◌, ◌≤◌, ◌+◌, ◌-◌, ◌*◌, ◌/◌, ◌^◌, min, max, Bool, true, false, if◌then◌else◌}
use Rattle.parallel_bridge.specs.declared.path.Path.{Path}
use Rattle.parallel_bridge.specs.declared.path.Path.TheVariants.{Serial, Parallel}
use Rattle.parallel_fault.specs.declared.fault.Fault.{Fault}
use Rattle.parallel_policy.specs.declared.Site.{Site}
use Rattle.commonware_parallel.specs.declared.call.Call.{Call}
use Rattle.commonware_parallel.specs.declared.call.Kind.{Kind}
use Rattle.commonware_parallel.specs.declared.call.Kind.TheVariants.{Body, Batches, Tiles, Join, Spawn}
use Rattle.commonware_parallel.specs.declared.call.Pick.{Pick}
use Rattle.commonware_parallel.specs.declared.call.Pick.TheVariants.{By, Into}

-- a choice between a serial and a parallel body, over that many items
abbrev pub body_call : ℕ → Call
body_call len = record { kind = Body; len = len; work = len; max_parts = 1 }

-- a choice between two closures one after the other and side by side
abbrev pub join_call : Call
join_call = record { kind = Join; len = 2; work = 2; max_parts = 1 }

-- a choice between a job that is run at once and one that is handed off, over that many items
abbrev pub spawn_call : ℕ → Call
spawn_call len = record { kind = Spawn; len = len; work = len; max_parts = 1 }

-- work that stops at the greatest usize
abbrev pub work_of : ℕ → ℕ → ℕ
work_of len multiplier = min (len * multiplier) (2 ^ 64 - 1)

-- a choice between a serial and a parallel body, over that many items that each stand for so much
-- work
abbrev pub multiplied_call : ℕ → ℕ → Call
multiplied_call len multiplier =
    record { kind = Body; len = len; work = work_of len multiplier; max_parts = 1 }

-- a choice among numbers of ranges: as many as are planned for, but no range shorter than the
-- minimum, and one at least
abbrev pub batches_call : ℕ → ℕ → ℕ → ℕ → Call
batches_call planned len minimum multiplier =
    record {
      kind = Batches;
      len = len;
      work = work_of len multiplier;
      max_parts = max 1 (min planned (len / minimum));
    }

-- a choice among numbers of workers, over rows of that many columns: as many as are planned for
abbrev pub tiles_call : ℕ → ℕ → ℕ → ℕ → Call
tiles_call planned len cost multiplier =
    record { kind = Tiles; len = len; work = work_of cost multiplier; max_parts = planned }

-- whether calls of a kind go by a path, serially or in parallel; the others are made in parts
abbrev pub goes_by_path : Kind → Bool
goes_by_path Body = true
goes_by_path Batches = false
goes_by_path Tiles = false
goes_by_path Spawn = true
goes_by_path Join = true

-- The picks that a call has. A body, a join and a job go by a path: the serial body, one closure
-- after the other, or the job at once; or the parallel body, side by side, or handed off. Batches
-- and tiles go in a number of parts, from 1 to the greatest number that the call names.
abbrev pub HasPick : Call → Pick → Type 0
HasPick call (By path) = goes_by_path call.kind ≡ true
HasPick call (Into parts) = (goes_by_path call.kind ≡ false) × (0 < parts)
    × (parts ≤ call.max_parts)

-- the first pick of a call: serially, or in one part
abbrev pub first_pick : Call → Pick
first_pick call = if goes_by_path call.kind then By Serial else Into 1

-- the last pick of a call: in parallel, or in as many parts as there may be
abbrev pub last_pick : Call → Pick
last_pick call = if goes_by_path call.kind then By Parallel else Into call.max_parts

-- how many picks a call has: two paths, or as many as there may be parts
abbrev pub options_of : Call → ℕ
options_of call = if goes_by_path call.kind then 2 else call.max_parts

-- the paths in their order
abbrev pub nth_path : ℕ → Path
nth_path zero = Serial
nth_path (suc index) = Parallel

-- the picks of a call in their order, the first at 0
abbrev pub nth_pick : Call → ℕ → Pick
nth_pick call index = if goes_by_path call.kind then By (nth_path index) else Into (index + 1)

-- The fact holds by a path that may be taken.
abbrev pub AtSomePath : (Pick → Type 0) → (Path → Type 0) → Type 0
AtSomePath takes fact = (path : Path) × takes (By path) × fact path

-- Inner is a strategy like outer that no policy chooses for: it has the same numbers (planned,
-- threaded, started), takes at most one pick of a call (settled), which outer may take too
-- (within), and refuses no call but a spawn (unrefused).
pub record IsInnerOf {S : Type 0} (takes : S → Site → Call → Pick → Type 0)
    (refuses : S → Site → Call → Fault → Type 0) (plans threads : S → ℕ) (starts : S → Bool)
    (outer inner : S) : Type 0 where
  pub planned : plans inner ≡ plans outer
  pub threaded : threads inner ≡ threads outer
  pub started : starts inner ≡ starts outer
  pub settled : (site : Site) (call : Call) (p q : Pick) → takes inner site call p
      → takes inner site call q → p ≡ q
  pub within : (site : Site) (call : Call) (pick : Pick) → takes inner site call pick
      → takes outer site call pick
  pub unrefused : (site : Site) (call : Call) (fault : Fault) → call.kind ≢ Spawn
      → refuses inner site call fault → ⊥
