-- What fills and finishes do along a list of stretches, with one state that goes through all.
use Rattle.std.specs.Prelude.{◌≡◌, ℕ, ◌<◌, List, All, [], ◌∷◌, ◌++◌, Option, Some, None}
use Rattle.std.specs.Borrow.{MutBor}
use Rattle.std.specs.declared.ops.Range.{Range}
use Rattle.parallel_shares.specs.declared.shares.stretch.Stretch.{Stretch}
use Rattle.parallel_shares.specs.declared.shares.stretch.Piece.{Piece}
use Rattle.parallel_shares.specs.Fronts.{IsFront}
use Rattle.parallel_shares.specs.Sizes.{Sizes}
use Rattle.parallel_shares.specs.Stretches.{Cutting, IsPiece, Parted, piece_cells, stretch_of}

-- called is a call that is lent a state: s is the state before the call, t the state after it
abbrev pub Fills : {T : Type 0} → (MutBor T → ℕ → Range ℕ → Unit {0} → MutBor T → Type 0) → T → ℕ
    → Range ℕ → T → Type 0
Fills {T = T} called s row columns t = (p q : MutBor T) × (p.now ≡ s)
    × called p row columns tt q × (q.now ≡ t)

-- the same of a call that returns r
abbrev pub Gives : {T P R : Type 0} → (MutBor T → P → R → MutBor T → Type 0) → T → P → R → T → Type 0
Gives {T = T} called s x r t = (p q : MutBor T) × (p.now ≡ s) × called p x r q × (q.now ≡ t)

-- the same of a call that is handed part of a stretch
abbrev pub Ends : {T P R : Type 0} → (Stretch → P) → (MutBor T → P → R → MutBor T → Type 0) → T
    → Stretch → R → T → Type 0
Ends part called s x = Gives called s (part x)

-- fills of nonempty ranges that tile the columns of a row from one up to another, in order, lead
-- from the state s to the state t
pub data Filled {T : Type 0} (fill : T → ℕ → Range ℕ → T → Type 0) (row : ℕ) : T → ℕ → ℕ → T
    → Type 0 where
  no_fill : (s t : T) (a b : ℕ) → s ≡ t → a ≡ b → Filled fill row s a b t
  last_fill : (s u t : T) (a m b : ℕ) → Filled fill row s a m u → m < b
      → fill u row (record { start = m; end = b }) t → Filled fill row s a b t

-- the fills of a stretch, and then what ends it
abbrev pub Ended : {T R : Type 0} → (T → ℕ → Range ℕ → T → Type 0) → (T → Stretch → R → T → Type 0)
    → T → Stretch → R → T → Type 0
Ended {T = T} fill ends s x r t =
    (u : T) × Filled fill x.row s x.columns.start x.columns.end u × ends u x r t

-- one result for each stretch, in order, by one chain from the state s to the state t
abbrev pub Finished : {T R : Type 0} → (T → ℕ → Range ℕ → T → Type 0) → (T → Stretch → R → T → Type 0)
    → T → List Stretch → List R → T → Type 0
Finished fill ends s [] [] t = s ≡ t
Finished fill ends s [] (r ∷ rs) t = ⊥
Finished fill ends s (x ∷ xs) [] t = ⊥
Finished {T = T} fill ends s (x ∷ xs) (r ∷ rs) t =
    (u : T) × Ended fill ends s x r u × Finished fill ends u xs rs t

-- ---- a chain on its way, with a stretch that is open

-- the open stretch, if one is, was filled so far
abbrev pub FilledOpen : {T : Type 0} → (T → ℕ → Range ℕ → T → Type 0) → T → Option Piece → T
    → Type 0
FilledOpen fill s None t = s ≡ t
FilledOpen fill s (Some p) t = Filled fill p.row s p.start p.end t

-- the open stretch, if one is, gets its result
abbrev pub Closes : {T R : Type 0} → (T → Stretch → R → T → Type 0) → Option Piece → T → List R → T
    → List R → Type 0
Closes ends None s before t after = (s ≡ t) × (after ≡ before)
Closes {R = R} ends (Some p) s before t after = (r : R) × ends s (stretch_of p) r t
    × (after ≡ before ++ r ∷ [])

-- from the first state on, the cells so far were cut; the stretches before the open one have their
-- results, and the open one was filled so far
pub record Underway {T R : Type 0}
    (fill : T → ℕ → Range ℕ → T → Type 0) (ends : T → Stretch → R → T → Type 0)
    (len : ℕ) (first : T) (cells : List ℕ)
    (opened : Option Piece) (results : List R) (state : T) : Type 0 where
  pub done : List Stretch
  pub before : T
  pub finished : Finished fill ends first done results before
  pub filled : FilledOpen fill before opened state
  pub parted : Parted len cells done opened

-- whatever is on its way goes on by these cells: from an open stretch, results and a state to those
-- after
abbrev pub GoesOn : {T R : Type 0} → (T → ℕ → Range ℕ → T → Type 0) → (T → Stretch → R → T → Type 0) → ℕ
    → List ℕ → Option Piece → List R → T → Option Piece → List R → T → Type 0
GoesOn {T = T} fill ends len more opened results state opened_after results_after state_after =
    (first : T) (cells : List ℕ)
    → Underway fill ends len first cells opened results state
    → Underway fill ends len first (cells ++ more) opened_after results_after state_after

-- the same by a tile, on rows of any length that it is a tile of
abbrev pub GoesOnByPiece : {T R : Type 0} → (T → ℕ → Range ℕ → T → Type 0)
    → (T → Stretch → R → T → Type 0) → Piece → Option Piece → List R → T → Option Piece → List R → T
    → Type 0
GoesOnByPiece fill ends piece opened results state opened_after results_after state_after =
    (len : ℕ) → IsPiece len piece
    → GoesOn fill ends len (piece_cells len piece) opened results state opened_after results_after
    state_after

-- ---- a run over claims

-- ranges were claimed, each the front of a word of the cells, and the stretches that they are cut
-- into have their results
abbrev pub Worked : {T R : Type 0} → (T → ℕ → Range ℕ → T → Type 0) → (T → Stretch → R → T → Type 0)
    → Sizes → ℕ → List (Range ℕ) → T → List (Range ℕ) → List R → T → Type 0
Worked fill ends sizes len claims state claims_after results state_after =
    (gained : List (Range ℕ)) × (cut : List Stretch)
    × (claims_after ≡ claims ++ gained)
    × All (IsFront sizes) gained
    × Cutting gained len cut × Finished fill ends state cut results state_after
