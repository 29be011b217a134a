-- A core latch and its seats, as contracts name them.
use Rattle.std.specs.Prelude.{◌≡◌, []}
use Rattle.parallel_pool.specs.declared.latch.core_latch.CoreLatch.{CoreLatch}
use Rattle.parallel_pool.specs.declared.latch.latch_seat.LatchSeat.{LatchSeat}
use Rattle.parallel_pool.specs.declared.latch.history.View.{View}

-- the seat is one of this latch
abbrev pub IsLatchSeatOf : CoreLatch → LatchSeat → Type 0
IsLatchSeatOf latch seat =
    (seat.seat.table_id ≡ latch.table.shared.table_id) × (seat.seat.me.1 ≡ [])

-- what the seat knows of its latch
abbrev pub known : LatchSeat → View
known seat = seat.seat.me.0
