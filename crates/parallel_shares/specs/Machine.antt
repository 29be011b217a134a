-- What the machine of shares keeps, and how its parts are read and written.
use Rattle.std.specs.Prelude.{◌≡◌, ℕ, zero, suc, ◌<◌, ◌≤◌, ◌++◌, List, [], ◌∷◌, length, replicate, Option, Some, None, IfSome, false, slice_index, slice_index_or, slice_set}
use Rattle.std.specs.declared.ops.Range.{Range}
use Rattle.parallel_shares.specs.declared.machine.rows.SeatRow.{SeatRow}
use Rattle.parallel_shares.specs.declared.machine.rows.Remembered.{Remembered}
use Rattle.parallel_shares.specs.Words.{packed, IsWithin}
use Rattle.parallel_shares.specs.Sizes.{Sizes, shares_of, opening_start, IsSound}

-- a plan, the words of all its shares, and the records of all its seats: what each remembers,
-- carries and has claimed
pub record Machine : Type 0 where
  pub plan : Sizes
  pub words : List ℕ
  pub seat_rows : List SeatRow

-- the record of a seat for which nothing was loaded, taken or claimed
abbrev pub fresh : SeatRow
fresh = record { remembered = None; transit = None; claims = [] }

-- the word of a share
abbrev pub word_at : Machine → ℕ → ℕ
word_at machine share = slice_index machine.words share

-- the record of a seat, and a fresh one for a seat that does not exist
abbrev pub row_at : Machine → ℕ → SeatRow
row_at machine seat = slice_index_or machine.seat_rows seat fresh

-- the machine with another word at a share
abbrev pub with_word : Machine → ℕ → ℕ → Machine
with_word machine share word = record machine { words = slice_set machine.words share word }

-- the machine with another record for a seat
abbrev pub with_seat_row : Machine → ℕ → SeatRow → Machine
with_seat_row machine seat row = record machine { seat_rows = slice_set machine.seat_rows seat row }

-- the machine where a seat remembers what it loaded
abbrev pub remembers : Machine → ℕ → Remembered → Machine
remembers machine seat load =
    with_seat_row machine seat (record (row_at machine seat) { remembered = Some load })

-- the machine where a seat has forgotten what it loaded
abbrev pub forgets : Machine → ℕ → Machine
forgets machine seat =
    with_seat_row machine seat (record (row_at machine seat) { remembered = None })

-- the machine where a seat has claimed more cells
abbrev pub gains : Machine → ℕ → Range ℕ → Machine
gains machine seat cells =
    with_seat_row machine seat (record (row_at machine seat)
    { claims = (row_at machine seat).claims ++ cells ∷ [] })

-- the machine where a seat carries these units, or none
abbrev pub carries : Machine → ℕ → Option (Range ℕ) → Machine
carries machine seat units =
    with_seat_row machine seat (record (row_at machine seat) { transit = units })

-- the words of that many shares, from the first: balanced ranges that cover the units
abbrev pub opening_words : Sizes → ℕ → List ℕ
opening_words sizes zero = []
opening_words sizes (suc share) =
    opening_words sizes share ++ packed (opening_start sizes share)
    (opening_start sizes (suc share)) ∷ []

-- the machine before any event
abbrev pub opening : Sizes → Machine
opening sizes = record {
  plan = sizes;
  words = opening_words sizes (shares_of sizes);
  seat_rows = replicate sizes.workers fresh;
}

-- what the record of a plan's seat may remember and carry: a word of a share that exists, and units
-- that do
pub record IsSeatRowOf (sizes : Sizes) (row : SeatRow) : Type 0 where
  pub load : IfSome row.remembered (λ l. (l.share < shares_of sizes)
      × IsWithin sizes.units l.word)
  pub carried : IfSome row.transit (λ r. (r.start < r.end) × (r.end ≤ sizes.units)
      × (sizes.whole ≡ false))

-- a state that belongs to a plan: it was made for it, and has its shares, its seats, and ranges of
-- its units
pub record IsStateOf (sizes : Sizes) (machine : Machine) : Type 0 where
  pub sound : IsSound sizes
  pub plan : machine.plan ≡ sizes
  pub shares : length machine.words ≡ shares_of sizes
  pub seats : length machine.seat_rows ≡ sizes.workers
  pub words : (share : ℕ) → IsWithin sizes.units (word_at machine share)
  pub seat_rows : (seat : ℕ) → IsSeatRowOf sizes (row_at machine seat)
