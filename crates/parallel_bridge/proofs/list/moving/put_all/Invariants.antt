-- what was put, and then what is left, is all
use Rattle.parallel_bridge.proofs.{◌≡◌, ◌++◌, length, SamePlaces}
use Rattle.parallel_bridge.proofs.list.moving.put_all.Given as goal

abbrev pub invariant-loop-room : goal.invariant-loop-room
invariant-loop-room g l = SamePlaces l.fn.room l.room × (l.room.before ≡ l.fn.room.before)
    × (l.room.items ++ l.items.items ≡ l.fn.room.items ++ l.fn.items.items)

abbrev pub decreases-loop-room : goal.decreases-loop-room
decreases-loop-room g l = length l.items.items
