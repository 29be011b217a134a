-- Which pick a strategy takes that runs long lists alone in parallel.
use Rattle.std.specs.Prelude.{◌≡◌, ℕ, ◌<◌, ◌≤◌, List}
use Rattle.std.specs.Int.NonZero.{non_zero_usize_get}
use Rattle.parallel_bridge.specs.Shapes.{Cut, Shape, cutdepth}
use Rattle.commonware_parallel.specs.Calls.{first_pick, last_pick}
use Rattle.commonware_parallel.specs.declared.call.Call.{Call}
use Rattle.commonware_parallel.specs.declared.call.Pick.{Pick}
use Rattle.uses.specs.declared.long_lists.LongLists.{LongLists}

-- the number of items from which on a list is long
abbrev pub from_of : LongLists → ℕ
from_of strategy = strategy.from

-- the thread number, by which long lists are halved and batches are planned
abbrev pub thread_number_of : LongLists → ℕ
thread_number_of strategy = non_zero_usize_get strategy.threads

-- a list's shape for that thread number
abbrev pub shape_of : {X : Type 0} → LongLists → List X → Cut X
shape_of strategy xs = Shape (cutdepth (thread_number_of strategy)) xs

-- the first pick for a short list, and the last one for a long list
abbrev pub TakesByLength : ℕ → Call → Pick → Type 0
TakesByLength from call pick = (call.len < from → pick ≡ first_pick call)
    × (from ≤ call.len → pick ≡ last_pick call)
