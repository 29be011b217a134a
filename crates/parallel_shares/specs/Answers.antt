-- What each event of the machine needs, returns and changes, outcome by outcome.
use Rattle.std.specs.Prelude.{◌≡◌, ◌≢◌, ℕ, ◌+◌, ◌-◌, ◌*◌, ◌/◌, ◌<◌, ◌≤◌, min, List, [], ◌∷◌, length, Some, None}
use Rattle.std.specs.declared.ops.Range.{Range}
use Rattle.parallel_shares.specs.declared.machine.event.Event.{Event}
use Rattle.parallel_shares.specs.declared.machine.event.Event.TheVariants.{Load, Claim, Steal, Refill}
use Rattle.parallel_shares.specs.declared.machine.event.Outcome.{Outcome}
use Rattle.parallel_shares.specs.declared.machine.event.Outcome.TheVariants.{Loaded, Empty, Lost, Claimed, Nothing, Taken, Refilled, Refused}
use Rattle.parallel_shares.specs.declared.machine.rows.Remembered.{Remembered}
use Rattle.parallel_shares.specs.Words.{start_of, end_of, packed, IsEmptyWord}
use Rattle.parallel_shares.specs.Sizes.{Sizes, share_of, cells_to}
use Rattle.parallel_shares.specs.Machine.{Machine, word_at, row_at, with_word, remembers, forgets, gains, carries}

-- ---- what each event needs

-- a load needs a seat and a share that exist
abbrev pub CanLoad : Machine → ℕ → ℕ → Type 0
CanLoad machine seat share = (seat < length machine.seat_rows) × (share < length machine.words)

-- a claim needs a remembered load, of this word, of the share that the seat claims from
abbrev pub CanClaim : Sizes → Machine → ℕ → ℕ → Type 0
CanClaim sizes machine seat word =
    (row_at machine seat).remembered ≡ Some (record { share = share_of sizes seat; word = word })

-- a steal needs a remembered load of another share, nothing in transit, and the seat's own word
-- empty
abbrev pub CanSteal : Sizes → Machine → ℕ → Remembered → Type 0
CanSteal sizes machine seat load =
    ((row_at machine seat).remembered ≡ Some load) × (load.share ≢ share_of sizes seat)
    × ((row_at machine seat).transit ≡ None) × IsEmptyWord (word_at machine (share_of sizes seat))

-- a refill needs these units in transit, and the seat's own word empty
abbrev pub CanRefill : Sizes → Machine → ℕ → Range ℕ → Type 0
CanRefill sizes machine seat units =
    ((row_at machine seat).transit ≡ Some units)
    × IsEmptyWord (word_at machine (share_of sizes seat))

-- ---- claims and splits of a word

-- where a claim from the front of a word stops: after the units of a claim, or where the word ends
abbrev pub claim_stop : Sizes → ℕ → ℕ
claim_stop sizes word = start_of word + min sizes.claim (end_of word - start_of word)

-- the cells of a claim from the front of a word
abbrev pub claim_cells : Sizes → ℕ → Range ℕ
claim_cells sizes word =
    record { start = start_of word * sizes.unit; end = cells_to sizes (claim_stop sizes word) }

-- the cells of a word
abbrev pub cells_in : Sizes → ℕ → ℕ
cells_in sizes word = cells_to sizes (end_of word) - start_of word * sizes.unit

-- where a word is split: the front half rounded down
abbrev pub middle_of : ℕ → ℕ
middle_of word = start_of word + (end_of word - start_of word) / 2

-- the split of a word pays: it has two units, and its back half has more cells than a split costs
abbrev pub Pays : Sizes → ℕ → Type 0
Pays sizes word =
    (2 ≤ end_of word - start_of word)
    × (sizes.split_cost < cells_to sizes (end_of word) - middle_of word * sizes.unit)

-- ---- the outcomes

-- a load tells the word and remembers it
abbrev pub LoadAnswers : Machine → ℕ → ℕ → Outcome → Machine → Type 0
LoadAnswers before seat share (Loaded word) after =
    CanLoad before seat share × (word ≡ word_at before share)
    × (after ≡ remembers before seat (record { share = share; word = word }))
LoadAnswers before seat share Refused after = (¬ CanLoad before seat share) × (after ≡ before)
LoadAnswers before seat share _ after = ⊥

-- a claim takes the front of the remembered word, unless that word is empty or no longer there; it
-- forgets the load
abbrev pub ClaimAnswers : Sizes → Machine → ℕ → Outcome → Machine → Type 0
ClaimAnswers sizes before seat Empty after =
    (word : ℕ) × CanClaim sizes before seat word × IsEmptyWord word × (after ≡ forgets before seat)
ClaimAnswers sizes before seat Lost after =
    (word : ℕ) × CanClaim sizes before seat word × (¬ IsEmptyWord word)
    × (word_at before (share_of sizes seat) ≢ word) × (after ≡ forgets before seat)
ClaimAnswers sizes before seat (Claimed cells) after =
    (word : ℕ) × CanClaim sizes before seat word × (¬ IsEmptyWord word)
    × (word_at before (share_of sizes seat) ≡ word) × (cells ≡ claim_cells sizes word)
    × (after ≡ with_word (forgets (gains before seat cells) seat) (share_of sizes seat)
    (packed (claim_stop sizes word) (end_of word)))
ClaimAnswers sizes before seat Refused after =
    ((word : ℕ) → ¬ CanClaim sizes before seat word) × (after ≡ before)
ClaimAnswers sizes before seat _ after = ⊥

-- a steal takes the back half of the remembered word into transit, unless that does not pay or the
-- word is no longer there; it forgets the load
abbrev pub StealAnswers : Sizes → Machine → ℕ → Outcome → Machine → Type 0
StealAnswers sizes before seat Nothing after =
    (load : Remembered) × CanSteal sizes before seat load × (¬ Pays sizes load.word)
    × (after ≡ forgets before seat)
StealAnswers sizes before seat Lost after =
    (load : Remembered) × CanSteal sizes before seat load × Pays sizes load.word
    × (word_at before load.share ≢ load.word) × (after ≡ forgets before seat)
StealAnswers sizes before seat (Taken units) after =
    (load : Remembered) × CanSteal sizes before seat load × Pays sizes load.word
    × (word_at before load.share ≡ load.word)
    × (units ≡ record { start = middle_of load.word; end = end_of load.word })
    × (after ≡ with_word (carries (forgets before seat) seat (Some units)) load.share
    (packed (start_of load.word) (middle_of load.word)))
StealAnswers sizes before seat Refused after =
    ((load : Remembered) → ¬ CanSteal sizes before seat load) × (after ≡ before)
StealAnswers sizes before seat _ after = ⊥

-- a refill stores what is in transit into the seat's own empty share
abbrev pub RefillAnswers : Sizes → Machine → ℕ → Outcome → Machine → Type 0
RefillAnswers sizes before seat (Refilled word) after =
    (units : Range ℕ) × CanRefill sizes before seat units × (word ≡ packed units.start units.end)
    × (after ≡ with_word (carries before seat None) (share_of sizes seat) word)
RefillAnswers sizes before seat Refused after =
    ((units : Range ℕ) → ¬ CanRefill sizes before seat units) × (after ≡ before)
RefillAnswers sizes before seat _ after = ⊥

-- The outcome of an event, and the machine before and after it. An event whose need isn't met
-- (CanLoad, CanClaim, CanSteal, CanRefill) is Refused, and changes nothing.
abbrev pub Answers : Sizes → Machine → Event → Outcome → Machine → Type 0
Answers sizes before (Load seat share) outcome after = LoadAnswers before seat share outcome after
Answers sizes before (Claim seat) outcome after = ClaimAnswers sizes before seat outcome after
Answers sizes before (Steal seat) outcome after = StealAnswers sizes before seat outcome after
Answers sizes before (Refill seat) outcome after = RefillAnswers sizes before seat outcome after

-- an event that makes a list longer: a claim that takes the front of a word
abbrev pub AddsClaim : Sizes → Machine → Event → Type 0
AddsClaim sizes machine (Claim seat) =
    (word : ℕ) × CanClaim sizes machine seat word × (¬ IsEmptyWord word)
    × (word_at machine (share_of sizes seat) ≡ word)
AddsClaim sizes machine _ = ⊥

-- the outcomes of events, one each and in order, and the machine before and after all of them
abbrev pub Replays : Sizes → Machine → List Event → List Outcome → Machine → Type 0
Replays sizes before [] [] after = after ≡ before
Replays sizes before (event ∷ events) (outcome ∷ outcomes) after =
    (next : Machine) × Answers sizes before event outcome next
    × Replays sizes next events outcomes after
Replays sizes before _ _ after = ⊥
