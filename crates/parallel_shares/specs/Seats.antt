-- What contracts say of shares and of their seats.
use Rattle.std.specs.Prelude.{◌≡◌, ◌≢◌, ℕ, ◌+◌, ◌/◌, ◌<◌, ◌≤◌, Bool, true, false, ◌||◌, eqb, List, [], ◌∷◌, ◌++◌, length, slice_index, slice_index_or, Option, Some, None}
use Rattle.std.specs.declared.ops.Range.{Range}
use Rattle.parallel_shares.specs.declared.shares.rule.View.{View}
use Rattle.parallel_shares.specs.declared.shares.seat.Seat.{Seat}
use Rattle.parallel_shares.specs.declared.shares.seat.Tried.{Tried}
use Rattle.parallel_shares.specs.declared.shares.seat.Tried.TheVariants.{Claimed, Empty, Lost, Taken, Nothing}
use Rattle.parallel_shares.specs.declared.shares.Shares.{Shares}
use Rattle.parallel_shares.specs.Words.{start_of, end_of, IsEmptyWord}
use Rattle.parallel_shares.specs.Sizes.{Sizes, shares_of, share_of}
use Rattle.parallel_shares.specs.Answers.{claim_cells}
use Rattle.parallel_shares.specs.Holders.{in_word, in_ranges}
use Rattle.parallel_shares.specs.Totals.{total}
use Rattle.parallel_shares.specs.Sharing.{loaded_at, loads_at, in_view, took_front, missed}

-- the plan of some shares
abbrev pub plan_of : Shares → Sizes
plan_of shares = shares.plan

-- what a seat knows
abbrev pub known : Seat → View
known seat = seat.seat.me.0

-- the number of a seat
abbrev pub index_of : Seat → ℕ
index_of seat = seat.index

-- the cells that a seat has claimed, in order
abbrev pub claims_of : Seat → List (Range ℕ)
claims_of seat = (known seat).claims

-- whether a seat has seen its own word empty, and has not filled it since
abbrev pub has_emptied : Seat → Bool
has_emptied seat = seat.own_empty

-- the units that a seat has in transit
abbrev pub transit_of : Seat → Option (Range ℕ)
transit_of seat = seat.transit

-- what is in transit are units of a cut plan, at a seat whose own word is empty
abbrev pub Carries : Sizes → Bool → Option (Range ℕ) → Type 0
Carries sizes emptied None = Unit {0}
Carries sizes emptied (Some range) = (range.start < range.end) × (range.end ≤ sizes.units)
    × (emptied ≡ true) × (sizes.whole ≡ false)

-- the seat is one of these shares
pub record IsSeatOf (shares : Shares) (seat : Seat) : Type 0 where
  pub table : seat.seat.table_id ≡ shares.table.shared.table_id
  pub index : index_of seat < (plan_of shares).workers
  pub plan : (known seat).plan ≡ plan_of shares
  pub words : length (known seat).words ≡ shares_of (plan_of shares)
  pub loads : length (known seat).loads ≡ shares_of (plan_of shares)
  pub carries : Carries (plan_of shares) (has_emptied seat) (transit_of seat)

-- these are all seats of the shares, in order
pub record AreSeatsOf (shares : Shares) (seats : List Seat) : Type 0 where
  pub count : length seats ≡ (plan_of shares).workers
  pub each : (i : ℕ) (d : Seat) → i < length seats → IsSeatOf shares (slice_index_or seats i d)
  pub order : (i : ℕ) (d : Seat) → i < length seats → index_of (slice_index_or seats i d) ≡ i

-- the seat has claimed nothing, has nothing in transit, and has taken no step
abbrev pub IsFresh : Seat → Type 0
IsFresh seat =
    (claims_of seat ≡ []) × (transit_of seat ≡ None) × (has_emptied seat ≡ false)
    × ((known seat).changes ≡ 0)
    × ((known seat).exchanges ≡ 0)

-- each seat is fresh
abbrev pub AreFresh : List Seat → Type 0
AreFresh seats = (i : ℕ) (d : Seat) → i < length seats → IsFresh (slice_index_or seats i d)

-- ---- what a call does

-- the share that a seat claims from
abbrev pub own_share : Shares → Seat → ℕ
own_share shares seat = share_of (plan_of shares) (index_of seat)

-- the word that a seat loaded last from the share that it claims from
abbrev pub own_word : Shares → Seat → ℕ
own_word shares seat = loaded_at (known seat) (own_share shares seat)

-- how often a seat has loaded the share that it claims from
abbrev pub own_loads : Shares → Seat → ℕ
own_loads shares seat = loads_at (known seat) (own_share shares seat)

-- the same number and the same transit
abbrev pub IsSameSeat : Seat → Seat → Type 0
IsSameSeat before after = (index_of after ≡ index_of before)
    × (transit_of after ≡ transit_of before)

-- a load of an empty word sets the flag that it was seen empty, and another leaves it
abbrev pub LoadsOwn : ℕ → Seat → Seat → Type 0
LoadsOwn word before after =
    has_emptied after ≡ (has_emptied before || eqb (start_of word) (end_of word))

-- no other share than the seat's own was loaded: the words that were loaded last there, and how
-- often each was loaded, are as before
abbrev pub OthersStay : Shares → Seat → Seat → Type 0
OthersStay shares before after =
    (share : ℕ) → share ≢ own_share shares before
    → (loaded_at (known after) share ≡ loaded_at (known before) share)
    × (loads_at (known after) share ≡ loads_at (known before) share)

-- no share was loaded less often than before
abbrev pub LoadsGrow : Seat → Seat → Type 0
LoadsGrow before after =
    (share : ℕ) → loads_at (known before) share ≤ loads_at (known after) share

-- an exchange at a share met the word that was loaded and claimed its front, or it met another word
-- and claimed nothing
abbrev pub MeetsFront : ℕ → ℕ → View → ℕ → View → Type 0
MeetsFront share word before found after = (found ≡ word → after ≡ took_front before share word)
    × (found ≢ word → after ≡ missed before share found)

-- that many exchanges more were tried, and that many steps more changed a word
abbrev pub CountsSteps : ℕ → ℕ → Seat → Seat → Type 0
CountsSteps exchanges changes before after =
    ((known after).exchanges ≡ (known before).exchanges + exchanges)
    × ((known after).changes ≡ (known before).changes + changes)

-- cells of the grid, at least one
abbrev pub AreSomeCells : Sizes → Range ℕ → Type 0
AreSomeCells sizes cells = (cells.start < cells.end) × (cells.end ≤ sizes.cells)

-- what a try to claim tells, of the word that it loaded: its front was claimed by an exchange that
-- met it; or it was not empty and an exchange met another word; or it was empty, and no exchange
-- was tried. The exchange was at the share that the seat claims from.
abbrev pub TriesClaim : Sizes → ℕ → Seat → Tried → Seat → Type 0
TriesClaim sizes word before (Claimed cells) after =
    (¬ IsEmptyWord word) × ((known after).met_at ≡ share_of sizes (index_of before))
    × ((known after).met ≡ word) × (cells ≡ claim_cells sizes word)
    × AreSomeCells sizes cells
    × (claims_of after ≡ claims_of before ++ cells ∷ []) × CountsSteps 1 1 before after
    × (has_emptied after ≡ has_emptied before)
TriesClaim sizes word before Lost after =
    (¬ IsEmptyWord word) × ((known after).met_at ≡ share_of sizes (index_of before))
    × ((known after).met ≢ word)
    × (claims_of after ≡ claims_of before) × CountsSteps 1 0 before after
    × (has_emptied after ≡ has_emptied before)
TriesClaim sizes word before Empty after =
    IsEmptyWord word × (claims_of after ≡ claims_of before) × CountsSteps 0 0 before after
    × (has_emptied after ≡ true)
TriesClaim sizes word before Taken after = ⊥
TriesClaim sizes word before Nothing after = ⊥

-- ---- at the end

-- each cell of the grid is once in a unit that is left in a word, in a unit in transit or in a
-- claim, and no other cell is claimed
pub record IsPartition (sizes : Sizes) (words : List ℕ) (seats : List Seat) : Type 0 where
  pub once : (c : ℕ) → c < sizes.cells
      → total (in_word (c / sizes.unit)) words + total (λ s. in_view sizes c (known s)) seats ≡ 1
  pub no_more : (c : ℕ) → sizes.cells ≤ c → total (λ s. in_ranges c (claims_of s)) seats ≡ 0

-- each seat has seen its own word empty, and has nothing in transit
abbrev pub AllDone : List Seat → Type 0
AllDone seats = (i : ℕ) (d : Seat) → i < length seats
    → (has_emptied (slice_index_or seats i d) ≡ true)
    × (transit_of (slice_index_or seats i d) ≡ None)

-- no unit is left in any word
abbrev pub AllEmpty : List ℕ → Type 0
AllEmpty words = (share : ℕ) → share < length words → IsEmptyWord (slice_index words share)

-- each cell of the grid is in just one claim, and no other cell is claimed
pub record EachCellOnce (sizes : Sizes) (seats : List Seat) : Type 0 where
  pub once : (c : ℕ) → c < sizes.cells → total (λ s. in_ranges c (claims_of s)) seats ≡ 1
  pub no_more : (c : ℕ) → sizes.cells ≤ c → total (λ s. in_ranges c (claims_of s)) seats ≡ 0
