-- A gate and its seats, as contracts name them.
use Rattle.std.specs.Prelude.{◌≡◌, ℕ, ◌+◌, ◌<◌, ◌≤◌, List, [], All, Contains, sum_by}
use Rattle.parallel_bridge.specs.declared.gate.Gate.{Gate}
use Rattle.parallel_bridge.specs.declared.gate.seat.GateSeat.{GateSeat}
use Rattle.parallel_bridge.specs.declared.gate.seat.GateView.{GateView}
use Rattle.parallel_bridge.specs.declared.gate.watch.GateWatch.{GateWatch}
use Rattle.parallel_bridge.specs.GateRule.{greatest}

-- how many seats the gate was opened for
abbrev pub seats_of : Gate → ℕ
seats_of gate = gate.table.shared.key

-- the seat is one of this gate
abbrev pub IsGateSeatOf : Gate → GateSeat → Type 0
IsGateSeatOf gate seat = (seat.seat.table_id ≡ gate.table.shared.table_id) × (seat.seat.me.1 ≡ [])

-- What the seat knows of its gate: how many seats it stands for, which starts it told, the least
-- word that it saw, how often it looked.
abbrev pub known : GateSeat → GateView
known seat = seat.seat.me.0

-- how many seats it stands for
abbrev pub stands_for : GateSeat → ℕ
stands_for seat = (known seat).seats

-- they stand together for all seats of the gate
abbrev pub AreAllOf : Gate → List GateSeat → Type 0
AreAllOf gate seats = All (IsGateSeatOf gate) seats × (sum_by stands_for seats ≡ seats_of gate)

-- one of the seats told the start
abbrev pub ToldByOne : List GateSeat → ℕ → Type 0
ToldByOne seats start = (seat : GateSeat) × Contains seats seat × Contains (known seat).told start

-- the number is at most each start that the seat told, and each word that it saw
abbrev pub IsAtMost : ℕ → GateView → Type 0
IsAtMost word v = All (λ start. word ≤ start) v.told × (word ≤ v.least)

-- the watch has a seat of its gate
abbrev pub IsWatching : GateWatch → Type 0
IsWatching watch = IsGateSeatOf watch.gate.now watch.seat

-- a watch of the same part, at the same gate
abbrev pub SameWatch : GateWatch → GateWatch → Type 0
SameWatch old new = (new.gate ≡ old.gate) × (new.start ≡ old.start)
    × (stands_for new.seat ≡ stands_for old.seat)

-- the watch may tell, and has told nothing
abbrev pub MayTell : GateWatch → Type 0
MayTell watch = IsWatching watch × (0 < stands_for watch.seat) × ((known watch.seat).told ≡ [])

-- and may be cut as often as that many items may
abbrev pub MayWatch : GateWatch → ℕ → Type 0
MayWatch watch count = MayTell watch × (count ≤ stands_for watch.seat)
    × (watch.start + count ≤ greatest)
