-- Lists that are moved into windows, one after another.
use Rattle.std.specs.Prelude.{◌≡◌, ◌+◌, ◌++◌, List, length}
use Rattle.std.specs.Vec.Ownership.{FitsInBlock}
use denote.RattleType.{RattleType}
use Rattle.parallel_bridge.specs.Fills.{IsRoom}
use Rattle.parallel_bridge.specs.Windows.{Adjoins, Follows, View, part}

-- it has no item yet, and a slot for each of these
abbrev pub IsRoomFor : {T : Type 0} → RattleType → View T → List T → Type 0
IsRoomFor R room xs = IsRoom room × (room.room ≡ length xs) × FitsInBlock R room.room

-- its slots, with these items from the first one on
abbrev pub holding : {T : Type 0} → View T → List T → View T
holding room xs = part room.start room.room 0 xs

-- two neighbours that can be put together
abbrev pub Joinable : {T : Type 0} → RattleType → View T → View T → Type 0
Joinable R a b = Follows R a b × FitsInBlock R (a.room + b.room) × Adjoins a b

-- and what they are together
abbrev pub side_by_side : {T : Type 0} → View T → View T → View T
side_by_side a b = part a.start (a.room + b.room) a.before (a.items ++ b.items)
