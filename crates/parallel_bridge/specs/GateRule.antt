-- What a seat of a gate knows, and what the gate's word and its seats keep together.
use Rattle.std.specs.Prelude.{◌≡◌, ℕ, ◌+◌, ◌-◌, ◌/◌, ◌≤◌, ◌⊎◌, min, List, [], ◌∷◌, ◌++◌, All, Contains, sum_by}
use mathlib.Core.Option.{some}
use lib.ListN.{get_elem?}
use Rattle.parallel_bridge.specs.declared.gate.seat.GateView.{GateView}

-- the greatest number that a word may be, where no start was told
abbrev pub greatest : ℕ
greatest = 18446744073709551615

-- ---- what a seat knows

-- which stands for that many seats, and has told nothing and seen nothing
abbrev pub newcomer : ℕ → GateView
newcomer n = record { seats = n; told = []; least = greatest; looks = 0 }

-- which has given one of its seats away
abbrev pub one_less : GateView → GateView
one_less v = record v { seats = v.seats - 1 }

-- which has given half of its seats away, and the new one that has them
abbrev pub front_half : GateView → GateView
front_half v = record v { seats = v.seats / 2 }

abbrev pub back_half : GateView → GateView
back_half v = newcomer (v.seats - v.seats / 2)

-- which has taken in another
abbrev pub gathered : GateView → GateView → GateView
gathered v w =
    record {
      seats = v.seats + w.seats;
      told = v.told ++ w.told;
      least = min v.least w.least;
      looks = v.looks + w.looks;
    }

-- which has told a start, where it found this word
abbrev pub telling : GateView → ℕ → ℕ → GateView
telling v word start =
    record v { told = v.told ++ start ∷ []; least = min v.least word }

-- which has looked, and found this word
abbrev pub looking : GateView → ℕ → GateView
looking v word = record v { least = min v.least word; looks = v.looks + 1 }

-- ---- what holds between any two steps

-- some seat told the start
abbrev pub WasTold : ℕ → List GateView → Type 0
WasTold start views = (by : ℕ) × (v : GateView) × (get_elem? views by ≡ some v)
    × Contains v.told start

-- the word is no greater than any that the seat saw, nor than any start that it told; and who
-- stands for no seat has told nothing
pub record FitsGate (word : ℕ) (v : GateView) : Type 0 where
  pub seen : word ≤ v.least
  pub told : All (λ start. word ≤ start) v.told
  pub idle : v.seats ≡ 0 → v.told ≡ []

-- The word is the greatest number or a start that some seat told, and at most each start that was
-- told and each word that a seat saw; the seats stand together for all seats, and one that stands
-- for none has told nothing.
pub record KeepsGate (n word : ℕ) (views : List GateView) : Type 0 where
  pub small : word ≤ greatest
  pub seats : sum_by (λ v. v.seats) views ≡ n
  pub source : (word ≡ greatest) ⊎ WasTold word views
  pub fits : (by : ℕ) (v : GateView) → get_elem? views by ≡ some v → FitsGate word v

-- there is one word, of which that is so
abbrev pub IsGateOf : ℕ → List ℕ → List GateView → Type 0
IsGateOf n words views = (word : ℕ) × (words ≡ word ∷ []) × KeepsGate n word views
