-- Who holds each unit, how units go from holder to holder, and when a machine shows it.
use Rattle.std.specs.Prelude.{◌≡◌, ◌≢◌, ℕ, suc, ◌+◌, ◌/◌, ◌<◌, ◌≤◌, false, cond, eqb, ltb, leb, List, [], ◌∷◌, Option, Some, None}
use Rattle.std.specs.declared.ops.Range.{Range}
use Rattle.parallel_shares.specs.Words.{start_of, end_of}
use Rattle.parallel_shares.specs.Sizes.{Sizes, shares_of, share_of, opening_start}
use Rattle.parallel_shares.specs.Machine.{Machine, word_at, row_at}

-- the one holder of a unit
pub data Holder : Type 0 where
  pending : ℕ → Holder
  carried : ℕ → Holder
  claimed : ℕ → Holder

-- one holder for each unit
abbrev pub Holders : Type 0
Holders = ℕ → Holder

-- ---- the moves

-- the units from one up to another go from one holder to another, and the rest stay
pub record Hands (units from to : ℕ) (giver taker : Holder) (before after : Holders) : Type 0 where
  pub given : (u : ℕ) → u < units → from ≤ u → u < to → before u ≡ giver
  pub taken : (u : ℕ) → u < units → from ≤ u → u < to → after u ≡ taker
  pub left : (u : ℕ) → u < units → u < from → after u ≡ before u
  pub right : (u : ℕ) → u < units → to ≤ u → after u ≡ before u

-- a seat claims a front of the share that it claims from
pub record Claims (sizes : Sizes) (seat from to : ℕ) (before after : Holders) : Type 0 where
  pub seat_exists : seat < sizes.workers
  pub some : from < to
  pub within : to ≤ sizes.units
  pub front : (u : ℕ) → u < sizes.units → before u ≡ pending (share_of sizes seat) → from ≤ u
  pub hands : Hands sizes.units from to (pending (share_of sizes seat)) (claimed seat) before after

-- in a cut plan a seat takes a back part of another's share into transit, and leaves some of it
pub record Steals (sizes : Sizes) (seat share from to : ℕ) (before after : Holders) : Type 0 where
  pub cut : sizes.whole ≡ false
  pub seat_exists : seat < sizes.workers
  pub share_exists : share < shares_of sizes
  pub other : share ≢ share_of sizes seat
  pub some : from < to
  pub within : to ≤ sizes.units
  pub back : (u : ℕ) → u < sizes.units → before u ≡ pending share → u < to
  pub leaves : (u : ℕ) × (u < from) × (before u ≡ pending share)
  pub hands : Hands sizes.units from to (pending share) (carried seat) before after

-- a seat puts all that it carries into its own empty share
pub record Refills (sizes : Sizes) (seat from to : ℕ) (before after : Holders) : Type 0 where
  pub seat_exists : seat < sizes.workers
  pub some : from < to
  pub within : to ≤ sizes.units
  pub all : (u : ℕ) → u < sizes.units → before u ≡ carried seat → (from ≤ u) × (u < to)
  pub empty : (u : ℕ) → u < sizes.units → before u ≢ pending (share_of sizes seat)
  pub hands : Hands sizes.units from to (carried seat) (pending (share_of sizes seat)) before after

-- A move of the units from one up to another. Since holders are a function of the unit, no unit has
-- two.
--                          claim: a front, by a seat that claims from this share
--      pending at a share ----------------------------------------------------> claimed by the seat
--          |          ^
--          |          +------------------------+
--          | steal: a back part of another's   | refill: all that the seat carries, into its own
--          v share (cut plans)                 | share, which is empty
--      carried by a seat ----------------------+
pub data Move : Type 0 where
  claim : ℕ → ℕ → ℕ → Move
  steal : ℕ → ℕ → ℕ → ℕ → Move
  refill : ℕ → ℕ → ℕ → Move

-- what a move does to the holders
abbrev pub Moves : Sizes → Move → Holders → Holders → Type 0
Moves sizes (claim seat from to) before after = Claims sizes seat from to before after
Moves sizes (steal seat share from to) before after = Steals sizes seat share from to before after
Moves sizes (refill seat from to) before after = Refills sizes seat from to before after

-- moves lead from holders to holders; the latest move stands first
abbrev pub Leads : Sizes → List Move → Holders → Holders → Type 0
Leads sizes [] before after = after ≡ before
Leads sizes (move ∷ moves) before after =
    (between : Holders) × Leads sizes moves before between × Moves sizes move between after

-- each unit is pending at the share whose opening range it is in
abbrev pub IsOpening : Sizes → Holders → Type 0
IsOpening sizes holders =
    (u : ℕ) → u < sizes.units → (share : ℕ) × (share < shares_of sizes)
    × (opening_start sizes share ≤ u)
    × (u < opening_start sizes (suc share)) × (holders u ≡ pending share)

-- moves lead from the opening to these holders
abbrev pub IsRun : Sizes → List Move → Holders → Type 0
IsRun sizes moves holders = (first : Holders) × IsOpening sizes first
    × Leads sizes moves first holders

-- ---- what a machine shows

-- 1 where a number is in a range, else 0
unfoldable pub inside : ℕ → ℕ → ℕ → ℕ
inside u start end = cond (leb start u) (cond (ltb u end) 1 0) 0

-- how often a unit is in a word
abbrev pub in_word : ℕ → ℕ → ℕ
in_word u word = inside u (start_of word) (end_of word)

-- how often a number is in a range
abbrev pub in_range : ℕ → Range ℕ → ℕ
in_range u range = inside u range.start range.end

-- how often a unit is in what a seat has in transit
abbrev pub in_transit : ℕ → Option (Range ℕ) → ℕ
in_transit u None = 0
in_transit u (Some range) = in_range u range

-- how often a number is in the ranges of a list
abbrev pub in_ranges : ℕ → List (Range ℕ) → ℕ
in_ranges c [] = 0
in_ranges c (range ∷ ranges) = in_range c range + in_ranges c ranges

-- 1 where two numbers are the same, else 0
abbrev pub same_number : ℕ → ℕ → ℕ
same_number i j = cond (eqb i j) 1 0

-- 1 where two holders are the same, else 0
abbrev pub same : Holder → Holder → ℕ
same (pending i) (pending j) = same_number i j
same (carried i) (carried j) = same_number i j
same (claimed i) (claimed j) = same_number i j
same _ _ = 0

-- words, transits and claims hold each unit exactly where its holder says, and nothing else. Claims
-- are ranges of cells: each cell of a unit is claimed by the unit's holder
pub record Shows (sizes : Sizes) (machine : Machine) (holders : Holders) : Type 0 where
  pub words : (u share : ℕ) → u < sizes.units
      → in_word u (word_at machine share) ≡ same (pending share) (holders u)
  pub transits : (u seat : ℕ) → u < sizes.units
      → in_transit u (row_at machine seat).transit ≡ same (carried seat) (holders u)
  pub claims : (c seat : ℕ) → c < sizes.cells
      → in_ranges c (row_at machine seat).claims ≡ same (claimed seat) (holders (c / sizes.unit))
  pub no_more : (c seat : ℕ) → sizes.cells ≤ c → in_ranges c (row_at machine seat).claims ≡ 0

-- from any holders that the machine showed, moves lead to holders that it shows now
abbrev pub StepsByMoves : Sizes → Machine → Machine → Type 0
StepsByMoves sizes before after =
    (holders : Holders) → Shows sizes before holders → (moves : List Move) × (next : Holders)
    × Leads sizes moves holders next × Shows sizes after next

-- the machine shows holders to which a run leads from the opening
abbrev pub Reached : Sizes → Machine → Type 0
Reached sizes machine = (moves : List Move) × (holders : Holders) × IsRun sizes moves holders
    × Shows sizes machine holders
