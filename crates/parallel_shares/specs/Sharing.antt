-- What the seats of shares know, and what words and seats keep together in any order of steps.
use Rattle.std.specs.Prelude.{◌≡◌, ◌≢◌, ℕ, ◌+◌, ◌-◌, ◌/◌, ◌<◌, ◌≤◌, ◌⊎◌, false, cond, eqb, List, [], ◌∷◌, ◌++◌, drop, take, length, replicate, slice_index, slice_set, Option, Some, None}
use Rattle.std.specs.List.{range_with_len}
use mathlib.Core.Option.{some}
use lib.ListN.{get_elem?}
use Rattle.std.specs.declared.ops.Range.{Range}
use Rattle.atomic_table.specs.Table.{State, Step, Me}
use Rattle.parallel_shares.specs.declared.shares.rule.View.{View}
use Rattle.parallel_shares.specs.Words.{start_of, end_of, IsEmptyWord, IsWithin}
use Rattle.parallel_shares.specs.Sizes.{Sizes, shares_of, share_of}
use Rattle.parallel_shares.specs.Machine.{opening_words}
use Rattle.parallel_shares.specs.Answers.{claim_cells, middle_of, Pays}
use Rattle.parallel_shares.specs.Holders.{inside, in_word, in_ranges}
use Rattle.parallel_shares.specs.Totals.{total, times}
use Rattle.parallel_shares.specs.Spaced.{place_of, share_at}

-- ---- what a seat knows

-- of these seat numbers, before any step: no claim, nothing in transit, and no share loaded
abbrev pub fresh_view : Sizes → List ℕ → View
fresh_view sizes numbers =
    record {
      owns = numbers;
      claims = [];
      transit = [];
      empties = [];
      words = replicate (shares_of sizes) 0;
      loads = replicate (shares_of sizes) 0;
      since = [];
      met = 0;
      met_at = 0;
      exchanges = 0;
      changes = 0;
      plan = sizes;
    }

-- of the seats from a number on
abbrev pub undealt : Sizes → ℕ → View
undealt sizes number = fresh_view sizes (range_with_len number (sizes.workers - number))

-- the word that was loaded last at a share
abbrev pub loaded_at : View → ℕ → ℕ
loaded_at view share = slice_index view.words share

-- how often a share was loaded
abbrev pub loads_at : View → ℕ → ℕ
loads_at view share = slice_index view.loads share

-- how often another share was loaded since the seat's own was loaded last
abbrev pub loads_since : View → ℕ → ℕ
loads_since view share = times share view.since

-- a range in transit as a list, for a view
abbrev pub ranges_of : Option (Range ℕ) → List (Range ℕ)
ranges_of None = []
ranges_of (Some range) = range ∷ []

-- ---- what holds between any two steps

-- how often a seat has a cell: in a claim, or in a unit in transit
abbrev pub in_view : Sizes → ℕ → View → ℕ
in_view sizes c view = in_ranges c view.claims + in_ranges (c / sizes.unit) view.transit

-- a seat has seen words empty only of its own numbers, and these words still are
abbrev pub Empties : Sizes → List ℕ → View → Type 0
Empties sizes words view =
    (k : ℕ) → (times k view.empties ≤ times k view.owns)
    × (0 < times k view.empties → IsEmptyWord (slice_index words (share_of sizes k)))

-- who has no number has nothing else
abbrev pub Idle : View → Type 0
Idle view = view.owns ≡ [] → (view.claims ≡ []) × (view.transit ≡ []) × (view.changes ≡ 0)

-- some opening word's split pays
abbrev pub SomeSplitPays : Sizes → Type 0
SomeSplitPays sizes =
    (share : ℕ) × (share < shares_of sizes)
    × Pays sizes (slice_index (opening_words sizes (shares_of sizes)) share)

-- What holds of the words and all seats' views between any two steps. Each cell of the grid is once
-- in a unit that is left in a word, in a unit in transit or in a claim, and no other cell is
-- claimed; each seat number is with one seat; a word that its seat has seen empty is empty until
-- that seat fills it; until a seat has changed a word, the words are those of the opening; and if
-- no opening word's split pays, no word's does, and nothing is in transit.
pub record IsSharingOf (sizes : Sizes) (state : State (Unit {0}) View) : Type 0 where
  pub shares : length state.words ≡ shares_of sizes
  pub within : (share : ℕ) → IsWithin sizes.units (slice_index state.words share)
  pub once : (c : ℕ) → c < sizes.cells
      → total (in_word (c / sizes.unit)) state.words + total (in_view sizes c) state.views ≡ 1
  pub no_more : (c : ℕ) → sizes.cells ≤ c → total (λ v. in_ranges c v.claims) state.views ≡ 0
  pub seats : (k : ℕ) → total (λ v. times k v.owns) state.views ≡ inside k 0 sizes.workers
  pub each : (i : ℕ) (v : View) → get_elem? state.views i ≡ some v → Empties sizes state.words v
      × Idle v
  pub splits : (share : ℕ) → Pays sizes (slice_index state.words share) → SomeSplitPays sizes
  pub taken : (i : ℕ) (v : View) → get_elem? state.views i ≡ some v → (v.transit ≡ [])
      ⊎ SomeSplitPays sizes
  pub opening : total (λ v. v.changes) state.views ≡ 0
      → state.words ≡ opening_words sizes (shares_of sizes)

-- ---- what a step tells its seat

-- the seat after a load of its own share, since which it loaded no other
abbrev pub looked_own : View → ℕ → ℕ → View
looked_own view share word =
    record view {
      words = slice_set view.words share word;
      loads = slice_set view.loads share (loads_at view share + 1);
      since = [];
      empties = cond (eqb (start_of word) (end_of word)) view.owns view.empties;
    }

-- the seat after its exchange at a share found the word that it had loaded, and claimed the front
abbrev pub took_front : View → ℕ → ℕ → View
took_front view share word =
    record view {
      claims = view.claims ++ claim_cells view.plan word ∷ [];
      met = word;
      met_at = share;
      exchanges = view.exchanges + 1;
      changes = view.changes + 1;
    }

-- the seat after its exchange at a share found another word
abbrev pub missed : View → ℕ → ℕ → View
missed view share word =
    record view { met = word; met_at = share; exchanges = view.exchanges + 1 }

-- the seat after a load of another share
abbrev pub looked : View → ℕ → ℕ → View
looked view share word =
    record view {
      words = slice_set view.words share word;
      loads = slice_set view.loads share (loads_at view share + 1);
      since = view.since ++ share ∷ [];
    }

-- the back half of a word
abbrev pub back_half : ℕ → Range ℕ
back_half word = record { start = middle_of word; end = end_of word }

-- the seat after its exchange at a share found the word that it had loaded, and took the back half
-- into transit
abbrev pub took_back : View → ℕ → ℕ → View
took_back view share word =
    record view {
      transit = back_half word ∷ [];
      met = word;
      met_at = share;
      exchanges = view.exchanges + 1;
      changes = view.changes + 1;
    }

-- the seat after it stored what it had in transit as the word of its own share
abbrev pub put_down : View → ℕ → ℕ → View
put_down view share word =
    record view {
      transit = [];
      empties = [];
      words = slice_set view.words share word;
      changes = view.changes + 1;
    }

-- a step is at the place of a share's word, and not beside it
abbrev pub IsOnWord : Step (Unit {0}) → Type 0
IsOnWord step = step.word ≡ place_of (share_at step.word)

-- a load of the seat's own share tells a range of units
abbrev pub LooksOwn : Step (Unit {0}) → Me (Unit {0}) View → ℕ → Me (Unit {0}) View → Type 0
LooksOwn step before word after =
    IsWithin before.0.plan.units word × (after.0 ≡ looked_own before.0 (share_at step.word) word)
    × (after.1 ≡ before.1) × IsOnWord step

-- an exchange of a loaded word leaves its seat with one view where it finds that word, and takes
-- nothing where it finds another
abbrev pub Exchanges : Step (Unit {0}) → Me (Unit {0}) View → View → ℕ → Me (Unit {0}) View → Type 0
Exchanges step before took word after =
    (word ≡ step.first → after.0 ≡ took)
    × (word ≢ step.first → after.0 ≡ missed before.0 (share_at step.word) word)
    × (after.1 ≡ before.1) × IsOnWord step

-- an exchange claims the front of the word that was loaded
abbrev pub TakesFront : Step (Unit {0}) → Me (Unit {0}) View → ℕ → Me (Unit {0}) View → Type 0
TakesFront step before word after =
    Exchanges step before (took_front before.0 (share_at step.word) step.first) word after

-- a load of another share tells a range of units, whose split pays only where some opening word's
-- does
abbrev pub LooksAt : Step (Unit {0}) → Me (Unit {0}) View → ℕ → Me (Unit {0}) View → Type 0
LooksAt step before word after =
    IsWithin before.0.plan.units word × (Pays before.0.plan word → SomeSplitPays before.0.plan)
    × (after.0 ≡ looked before.0 (share_at step.word) word) × (after.1 ≡ before.1)
    × IsOnWord step

-- an exchange takes the back half of the word that was loaded
abbrev pub TakesBack : Step (Unit {0}) → Me (Unit {0}) View → ℕ → Me (Unit {0}) View → Type 0
TakesBack step before word after =
    Exchanges step before (took_back before.0 (share_at step.word) step.first) word after

-- a store puts what is in transit down in the seat's own share
abbrev pub PutsDown : Step (Unit {0}) → Me (Unit {0}) View → ℕ → Me (Unit {0}) View → Type 0
PutsDown step before word after = (after.0 ≡ put_down before.0 (share_at step.word) word)
    × (after.1 ≡ before.1) × IsOnWord step

-- ---- how seats are dealt and gathered

-- what stays when a seat is dealt, and the new seat, which has the first number
abbrev pub dealt_from : View → View
dealt_from view = record view { owns = drop 1 view.owns }

abbrev pub dealt : View → View
dealt view = fresh_view view.plan (take 1 view.owns)

-- all that two seats have
abbrev pub gathered : View → View → View
gathered view other =
    record view {
      owns = view.owns ++ other.owns;
      claims = view.claims ++ other.claims;
      transit = view.transit ++ other.transit;
      empties = view.empties ++ other.empties;
      changes = view.changes + other.changes;
    }

-- what is left of a seat that another took in
abbrev pub spent : View
spent =
    record {
      owns = [];
      claims = [];
      transit = [];
      empties = [];
      words = [];
      loads = [];
      since = [];
      met = 0;
      met_at = 0;
      exchanges = 0;
      changes = 0;
      plan =
          record {
            cells = 0;
            unit = 0;
            claim = 0;
            units = 0;
            workers = 0;
            split_cost = 0;
            whole = false;
          };
    }
