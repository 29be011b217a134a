-- what the seats of shares have done when they come back
use Rattle.std.specs.Prelude.{◌≡◌, ℕ, List, [], ◌∷◌, ◌++◌, All, Ok, IfOk}
use Rattle.std.specs.Borrow.{MutBor}
use Rattle.std.specs.declared.alloc.Global.{Global}
use Rattle.std.specs.declared.ops.Range.{Range}
use Rattle.std.specs.declared.vec.Vec.{Vec}
use Rattle.parallel_shares.specs.declared.shares.Shares.{Shares}
use Rattle.parallel_shares.specs.declared.shares.seat.Seat.{Seat}
use Rattle.parallel_shares.specs.declared.shares.stretch.Stretch.{Stretch}
use Rattle.parallel_shares.specs.Fillings.{Finished}
use Rattle.parallel_shares.specs.Fronts.{IsFront}
use Rattle.parallel_shares.specs.Seats.{IsSeatOf, IsFresh, plan_of, index_of, claims_of}
use Rattle.parallel_shares.specs.Steals.{FoundNothing}
use Rattle.parallel_shares.specs.Stretches.{Cutting}
use Rattle.parallel_shares.specs.Sizes.{Work}
use Rattle.commonware_parallel.specs.MergedRows.{FillsSome}
use Rattle.commonware_parallel.specs.declared.tiles.seats.Worked.{Worked}

-- the seat that came back
abbrev pub seat_of : {R : Type 0} → Worked R → Seat
seat_of worked = worked.seat

-- a fresh seat of the shares
abbrev pub IsReady : Shares → Seat → Type 0
IsReady shares seat = IsSeatOf shares seat × IsFresh seat

-- a fresh seat that came back: of the same number, and where it has results, with nothing left to
-- claim; what it gained was cut into stretches, which were filled and finished by one chain from
-- the state s to the state t
pub record WorksFrom {T R : Type 0} (shares : Shares) (len : ℕ)
    (fill : T → ℕ → Range ℕ → T → Type 0) (ends : T → Stretch → R → T → Type 0) (s : T) (seat : Seat)
    (worked : Worked R) (t : T) : Type 0 where
  pub belongs : IsSeatOf shares (seat_of worked)
  pub number : index_of (seat_of worked) ≡ index_of seat
  pub fresh : claims_of seat ≡ []
  pub done : IfOk worked.results (λ _. FoundNothing shares seat (seat_of worked))
  pub chain : IfOk worked.results (λ results. (gained : List (Range ℕ)) × (cut : List Stretch)
      × (claims_of (seat_of worked) ≡ claims_of seat ++ gained)
      × All (IsFront (plan_of shares)) gained
      × Cutting gained len cut × Finished fill ends s cut results.items t)

-- each seat has results, and these are all of them, in order
abbrev pub AllResults : {R : Type 0} → List (Worked R) → List R → Type 0
AllResults [] all = all ≡ []
AllResults {R = R} (w ∷ ws) all = (results : Vec R Global) × (more : List R)
    × (w.results ≡ Ok results) × AllResults ws more × (all ≡ results.items ++ more)

-- chains over stretches that cut the work's rows, each of that many columns, into whole rows where
-- they stay whole
abbrev pub FillsWork : {T R : Type 0} → (T → Type 0) → (T → ℕ → Range ℕ → T → Type 0)
    → (T → Stretch → R → T → Type 0) → ℕ → Work → List R → Type 0
FillsWork init fill ends len work = FillsSome init fill ends work.rows len work.whole

-- fill accepts, with any state, each row and columns that it may be asked for
abbrev pub AcceptsFills : {T : Type 0} → (ℕ → Range ℕ → Type 0)
    → (MutBor T → ℕ → Range ℕ → Type 0) → Type 0
AcceptsFills {T = T} asked accepts = (lent : MutBor T) (row : ℕ) (columns : Range ℕ)
    → asked row columns → accepts lent row columns

-- finish accepts, with any state, its part of each stretch of a row that it may be asked for
abbrev pub AcceptsFinishes : {T Q : Type 0} → (ℕ → Type 0) → (Stretch → Q) → (MutBor T → Q → Type 0)
    → Type 0
AcceptsFinishes {T = T} asked part accepts = (lent : MutBor T) (stretch : Stretch)
    → asked stretch.row → accepts lent (part stretch)
