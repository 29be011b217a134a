-- Every event leaves a state that belongs to the plan.
use Rattle.parallel_shares.proofs.Common.{◌≡◌, ◌≢◌, ℕ, ◌<◌, ◌≤◌, Bool, true, false, cond, [], ◌∷◌, ◌++◌, Some, None, refl, ap, ◌∙◌, arith, length-set, Range, Event, Load, Claim, Steal, Refill}
use Rattle.parallel_shares.proofs.Common.{Outcome, Loaded, Empty, Lost, Claimed, Nothing, Taken, Refilled, Refused, SeatRow, Remembered, start_of, end_of, packed, IsWithin, Sizes, shares_of, share_of}
use Rattle.parallel_shares.proofs.Common.{Machine, fresh, row_at, with_word, with_seat_row, remembers, forgets, gains, carries, IsSeatRowOf, IsStateOf, CanSteal, claim_stop, middle_of, LoadAnswers}
use Rattle.parallel_shares.proofs.Common.{ClaimAnswers, StealAnswers, RefillAnswers, Answers}
use Rattle.parallel_shares.proofs.Words.{within_packed}
use Rattle.parallel_shares.proofs.ListWrites.{each_set}

-- only a cut plan has a share that a seat does not claim from
not_whole : (whole : Bool) (workers share seat : ℕ) → share < cond whole 1 workers
    → share ≢ cond whole 0 seat → whole ≡ false
not_whole true workers share seat h n = absurd (n (omega arith))
not_whole false workers share seat h n = refl

module _ (sizes : Sizes) (machine : Machine) (state : IsStateOf sizes machine) where
  pub word_kept : (share word : ℕ) → IsWithin sizes.units word
      → IsStateOf sizes (with_word machine share word)
  word_kept share word w = record {
    sound = state.sound;
    plan = state.plan;
    shares = length-set machine.words share word ∙ state.shares;
    seats = state.seats;
    words = each_set (λ v. IsWithin sizes.units v) machine.words share word 0 state.words w;
    seat_rows = state.seat_rows;
  }

  pub seat_row_kept : (seat : ℕ) (row : SeatRow) → IsSeatRowOf sizes row
      → IsStateOf sizes (with_seat_row machine seat row)
  seat_row_kept seat row p = record {
    sound = state.sound;
    plan = state.plan;
    shares = state.shares;
    seats = length-set machine.seat_rows seat row ∙ state.seats;
    words = state.words;
    seat_rows =
        each_set (λ q. IsSeatRowOf sizes q) machine.seat_rows seat row fresh state.seat_rows p;
  }

  pub forgets_kept : (seat : ℕ) → IsStateOf sizes (forgets machine seat)
  forgets_kept seat =
      seat_row_kept seat (record (row_at machine seat) { remembered = None })
      (record { load = tt; carried = (state.seat_rows seat).carried })

  pub remembers_kept : (seat share word : ℕ) → share < shares_of sizes → IsWithin sizes.units word
      → IsStateOf sizes (remembers machine seat (record { share = share; word = word }))
  remembers_kept seat share word s w =
      seat_row_kept seat (record (row_at machine seat)
      { remembered = Some (record { share = share; word = word }) })
      (record { load = (s, w); carried = (state.seat_rows seat).carried })

  pub gains_kept : (seat : ℕ) (cells : Range ℕ) → IsStateOf sizes (gains machine seat cells)
  gains_kept seat cells =
      seat_row_kept seat (record (row_at machine seat)
      { claims = (row_at machine seat).claims ++ cells ∷ [] })
      (record { load = (state.seat_rows seat).load; carried = (state.seat_rows seat).carried })

  pub drops_kept : (seat : ℕ) → IsStateOf sizes (carries machine seat None)
  drops_kept seat =
      seat_row_kept seat (record (row_at machine seat) { transit = None })
      (record { load = (state.seat_rows seat).load; carried = tt })

  pub carries_kept : (seat : ℕ) (units : Range ℕ) → units.start < units.end
      → units.end ≤ sizes.units → sizes.whole ≡ false
      → IsStateOf sizes (carries machine seat (Some units))
  carries_kept seat units some within cut =
      seat_row_kept seat (record (row_at machine seat) { transit = Some units })
      (record { load = (state.seat_rows seat).load; carried = (some, within, cut) })

  -- what a seat remembers is a word of a share that exists
  pub remembered_within : (seat : ℕ) (load : Remembered)
      → (row_at machine seat).remembered ≡ Some load → (load.share < shares_of sizes)
      × IsWithin sizes.units load.word
  remembered_within seat load e = rw e at (state.seat_rows seat).load

  -- what a seat carries is a range of units, in a cut plan
  pub carried_within : (seat : ℕ) (units : Range ℕ) → (row_at machine seat).transit ≡ Some units
      → (units.start < units.end) × (units.end ≤ sizes.units) × (sizes.whole ≡ false)
  carried_within seat units e = rw e at (state.seat_rows seat).carried

  -- what is left of a word after a claim is within the units
  pub claimed_within : (word : ℕ) → IsWithin sizes.units word
      → IsWithin sizes.units (packed (claim_stop sizes word) (end_of word))
  claimed_within word w =
      within_packed sizes.units (claim_stop sizes word) (end_of word) state.sound.units_fit
      (omega (arith, w.0)) w.1

  -- a steal is in a cut plan
  pub steal_cuts : (seat : ℕ) (load : Remembered) → CanSteal sizes machine seat load
      → sizes.whole ≡ false
  steal_cuts seat load can =
      not_whole sizes.whole sizes.workers load.share seat
      (remembered_within seat load can.0).0 can.1

module _ (sizes : Sizes) (before : Machine) (state : IsStateOf sizes before) where
  load_kept : (seat share : ℕ) (outcome : Outcome) (after : Machine)
      → LoadAnswers before seat share outcome after → IsStateOf sizes after
  load_kept seat share (Loaded word) after (can, w, e) =
      rw e (remembers_kept sizes before state seat share word (omega (arith, can.1, state.shares))
      (rw w (state.words share)))
  load_kept seat share Refused after (_, e) = rw e state
  load_kept seat share _ after a = absurd a

  claim_kept : (seat : ℕ) (outcome : Outcome) (after : Machine)
      → ClaimAnswers sizes before seat outcome after → IsStateOf sizes after
  claim_kept seat Empty after (word, can, empty, e) = rw e (forgets_kept sizes before state seat)
  claim_kept seat Lost after (word, can, some, lost, e) =
      rw e (forgets_kept sizes before state seat)
  claim_kept seat (Claimed cells) after (word, can, some, found, is, e) =
      let gained = gains_kept sizes before state seat cells in
      let forgot = forgets_kept sizes (gains before seat cells) gained seat in
      rw e (word_kept sizes (forgets (gains before seat cells) seat) forgot (share_of sizes seat)
      (packed (claim_stop sizes word) (end_of word))
      (claimed_within sizes before state word
      (rw found at (state.words (share_of sizes seat)))))
  claim_kept seat Refused after (_, e) = rw e state
  claim_kept seat _ after a = absurd a

  steal_kept : (seat : ℕ) (outcome : Outcome) (after : Machine)
      → StealAnswers sizes before seat outcome after → IsStateOf sizes after
  steal_kept seat Nothing after (load, can, pays, e) = rw e (forgets_kept sizes before state seat)
  steal_kept seat Lost after (load, can, pays, lost, e) =
      rw e (forgets_kept sizes before state seat)
  steal_kept seat (Taken units) after (load, can, pays, found, is, e) =
      let forgot = forgets_kept sizes before state seat in
      let l = remembered_within sizes before state seat load can.0 in
      let w = l.1 in
      let start : units.start ≡ middle_of load.word = ap (λ (r : Range ℕ). r.start) is in
      let end : units.end ≡ end_of load.word = ap (λ (r : Range ℕ). r.end) is in
      let took = carries_kept sizes (forgets before seat) forgot seat units
      (omega (arith, pays.0, start, end)) (omega (arith, end, w.1))
      (steal_cuts sizes before state seat load can) in
      rw e (word_kept sizes (carries (forgets before seat) seat (Some units)) took load.share
      (packed (start_of load.word) (middle_of load.word))
      (within_packed sizes.units (start_of load.word)
      (middle_of load.word) state.sound.units_fit (omega arith)
      (omega (arith, w.0, w.1, pays.0))))
  steal_kept seat Refused after (_, e) = rw e state
  steal_kept seat _ after a = absurd a

  refill_kept : (seat : ℕ) (outcome : Outcome) (after : Machine)
      → RefillAnswers sizes before seat outcome after → IsStateOf sizes after
  refill_kept seat (Refilled word) after (units, can, is, e) =
      let c = carried_within sizes before state seat units can.0 in
      let dropped = drops_kept sizes before state seat in
      rw e (word_kept sizes (carries before seat None) dropped (share_of sizes seat) word
      (rw is (within_packed sizes.units units.start units.end state.sound.units_fit
      (omega (arith, c.0)) c.1)))
  refill_kept seat Refused after (_, e) = rw e state
  refill_kept seat _ after a = absurd a

  pub answers_keep : (event : Event) (outcome : Outcome) (after : Machine)
      → Answers sizes before event outcome after → IsStateOf sizes after
  answers_keep (Load seat share) outcome after a = load_kept seat share outcome after a
  answers_keep (Claim seat) outcome after a = claim_kept seat outcome after a
  answers_keep (Steal seat) outcome after a = steal_kept seat outcome after a
  answers_keep (Refill seat) outcome after a = refill_kept seat outcome after a
