-- How a part of a list ended, whatever its values and its errors are, and what a watch says of it.
use Rattle.std.specs.Prelude.{◌≡◌, ℕ, ◌+◌, ◌<◌, ◌≤◌, ◌⊎◌, List, [], ◌∷◌, ◌++◌, length, All, Contains, Result, Ok, Err}
use Rattle.parallel_fault.specs.declared.fault.Trouble.{Trouble}
use Rattle.parallel_fault.specs.declared.fault.Trouble.TheVariants.{Closure}
use Rattle.parallel_fault.specs.declared.fault.Trouble.TheVariants.{Fault as OfFault}
use Rattle.parallel_bridge.specs.declared.gate.seat.GateView.{GateView}
use Rattle.parallel_bridge.specs.declared.gate.watch.GateWatch.{GateWatch}
use Rattle.parallel_bridge.specs.declared.halt.Halt.{Halt}
use Rattle.parallel_bridge.specs.declared.halt.Halt.TheVariants.{Failed, Stopped}
use Rattle.parallel_bridge.specs.GateRule.{gathered}
use Rattle.parallel_bridge.specs.Gates.{IsWatching, known, stands_for}
use Rattle.parallel_bridge.specs.Halting.{StoppedWithin}

-- it ended with its last item; by an error of its own; since it was stopped; or by a refusal
pub data Ending : Type 0 where
  well : Ending
  failing : Ending
  stopping : Ending
  refusing : Ending

-- how a segment ended
abbrev pub ending : {R E : Type 0} → Result R (Halt E) → Ending
ending (Ok r) = well
ending (Err (Failed e)) = failing
ending (Err Stopped) = stopping

-- how a part ended, which may be refused
abbrev pub ending_of : {R E : Type 0} → Result R (Trouble (Halt E)) → Ending
ending_of (Ok r) = well
ending_of (Err (Closure (Failed e))) = failing
ending_of (Err (Closure Stopped)) = stopping
ending_of (Err (OfFault f)) = refusing

-- nothing stopped it
abbrev pub IsUnstopped : Ending → Type 0
IsUnstopped well = Unit {0}
IsUnstopped failing = Unit {0}
IsUnstopped stopping = ⊥
IsUnstopped refusing = Unit {0}

-- how two neighbours end together: the left one's trouble stands, after a left one that ended well
-- the right one's, and two that ended well do so together, unless they are refused
abbrev pub EndTogether : Ending → Ending → Ending → Type 0
EndTogether well well z = (z ≡ well) ⊎ (z ≡ refusing)
EndTogether well failing z = z ≡ failing
EndTogether well stopping z = z ≡ stopping
EndTogether well refusing z = z ≡ refusing
EndTogether failing y z = z ≡ failing
EndTogether stopping y z = z ≡ stopping
EndTogether refusing y z = z ≡ refusing

-- ---- of any watch: its state at a part's beginning, the number of items, its state, how it ended

-- a part may be under way: it may end well now
abbrev pub IsUnderway : {W : Type 0} → (W → ℕ → W → Ending → Type 0) → W → Type 0
IsUnderway {W = W} ends now = (first : W) × (count : ℕ) × ends first count now well

-- whatever part may end well by the old state, may end so by the new one
abbrev pub Goes : {W : Type 0} → (W → ℕ → W → Ending → Type 0) → W → W → Ending → Type 0
Goes {W = W} ends old new how =
    (first : W) (count : ℕ) → ends first count old well → ends first count new how

-- What watched two halves, by how these ended, became what watched them both, of which they say how
-- both end together; and it was told where what puts them together failed.
abbrev pub JoinsTo : {W : Type 0} → (W → ℕ → W → Ending → Type 0) → (W → W → W → Type 0) → W → W → W
    → Ending → Ending → Ending → Type 0
JoinsTo {W = W} ends joins left right last x y z = (both : W) × (between : Ending)
    × joins left right both × EndTogether x y between
    × ((first : W) (count : ℕ) → ends first count both between → ends first count last z)

-- it has looked once more
abbrev pub LooksOnce : {W : Type 0} → (W → ℕ → W → Type 0) → W → W → Type 0
LooksOnce {W = W} looked old new =
    (first : W) (count : ℕ) → looked first count old → looked first (count + 1) new

-- it has looked that many times more
abbrev pub LooksMore : {W : Type 0} → (W → ℕ → W → Type 0) → ℕ → W → W → Type 0
LooksMore {W = W} looked more old new =
    (first : W) (count : ℕ) → looked first count old → looked first (count + more) new

-- it has looked once for each item of a list that may come: up to its last item, or in front of the
-- next one, after which no item makes a difference
abbrev pub LooksAlong : {W S X : Type 0} → (W → ℕ → W → Type 0) → W → W → (S → List X → Type 0)
    → S → (List X → Type 0) → Type 0
LooksAlong {X = X} looked old new gives items settled = (front rest : List X)
    × gives items (front ++ rest) × LooksMore looked (length front) old new
    × ((rest ≡ []) ⊎ ((x : X) × (others : List X) × (rest ≡ x ∷ others)
    × ((more : List X) → settled (front ++ x ∷ more))))

-- ---- of a watch of a gate

-- a segment of the part told its start, and nobody in the part a lesser one
abbrev pub ToldWithin : ℕ → ℕ → GateView → Type 0
ToldWithin start count v = (at : ℕ) × (start ≤ at) × (at ≤ start + count) × Contains v.told at
    × All (λ told. at ≤ told) v.told

-- what the seats of a part, put together, have told at its end: nothing where it ended well, a
-- segment's start where one failed; and a refusal isn't told
abbrev pub ToldAfter : ℕ → ℕ → GateView → Ending → Type 0
ToldAfter start count v well = v.told ≡ []
ToldAfter start count v failing = ToldWithin start count v
ToldAfter start count v stopping = StoppedWithin start count v
ToldAfter start count v refusing = All (λ told. start < told) v.told

-- and they stand for as many seats as before, and told no start in front of the part
abbrev pub SeatEnds : ℕ → ℕ → ℕ → GateView → Ending → Type 0
SeatEnds start count seats v how = (v.seats ≡ seats) × All (λ told. start ≤ told) v.told
    × ToldAfter start count v how

-- the same gate and the same start, with a seat of the gate that stands for some
abbrev pub WatchEnds : GateWatch → ℕ → GateWatch → Ending → Type 0
WatchEnds first count last how = (last.gate ≡ first.gate) × (last.start ≡ first.start)
    × IsWatching last × (0 < stands_for last.seat)
    × SeatEnds first.start count (stands_for first.seat) (known last.seat) how

-- it has looked that many times since
abbrev pub HasLooked : GateWatch → ℕ → GateWatch → Type 0
HasLooked first count last = (known last.seat).looks ≡ (known first.seat).looks + count

-- two watches of one gate
abbrev pub WatchesMeet : GateWatch → GateWatch → Type 0
WatchesMeet left right = IsWatching left × IsWatching right × (right.gate ≡ left.gate)

-- and the one that they become, where the left one starts
abbrev pub WatchesJoin : GateWatch → GateWatch → GateWatch → Type 0
WatchesJoin left right both = (both.gate ≡ left.gate) × (both.start ≡ left.start)
    × IsWatching both × (known both.seat ≡ gathered (known left.seat) (known right.seat))
