-- Every event leads from holders that the machine showed to holders that it shows.
use Rattle.parallel_shares.proofs.Common.{◌≡◌, ℕ, ◌+◌, ◌<◌, ◌≤◌, inl, inr, [], ◌∷◌, length, Some, None, refl, sym, ap, ◌∙◌, arith, cases_eq, length-set, Range, Event, Load}
use Rattle.parallel_shares.proofs.Common.{Claim, Steal, Refill, Outcome, Loaded, Empty, Lost, Claimed, Nothing, Taken, Refilled, Refused, Remembered, start_of, end_of, packed, IsEmptyWord, Sizes}
use Rattle.parallel_shares.proofs.Common.{shares_of, share_of, Machine, word_at, row_at, with_word, remembers, forgets, gains, carries, IsStateOf, CanClaim, CanSteal, CanRefill, claim_stop}
use Rattle.parallel_shares.proofs.Common.{claim_cells, middle_of, Pays, LoadAnswers, ClaimAnswers, StealAnswers, RefillAnswers, Answers, pending, carried, claimed, Holders, Claims, Steals, Refills}
use Rattle.parallel_shares.proofs.Common.{claim, steal, refill, inside, in_word, in_transit, in_ranges, same, Shows, StepsByMoves}
use Rattle.parallel_shares.proofs.Words.{start_of_packed, end_of_packed, cut_front, cut_back, claim_front, two_halves}
use Rattle.parallel_shares.proofs.ShareOfSeat.{share_exists}
use Rattle.parallel_shares.proofs.Counts.{side, within, before, after, inside_within, inside_nothing, inside_cells, inside_no_cells}
use Rattle.parallel_shares.proofs.ListWrites.{in_ranges_push}
use Rattle.parallel_shares.proofs.MachineChanges.{word_there, word_elsewhere, remembers_transit, remembers_claims, forgets_transit, forgets_claims, gains_transit}
use Rattle.parallel_shares.proofs.MachineChanges.{gains_there, gains_elsewhere, carries_claims, carries_there, carries_elsewhere, rememberer, carrier}
use Rattle.parallel_shares.proofs.EventsKeepState.{remembered_within, carried_within, steal_cuts}
use Rattle.parallel_shares.proofs.UnitsHandedOver.{same_self, same_holder, other_pending, other_carried, other_claimed, handed, gives, takes, keeps, hands_over, Changes, shows_handed, shows_still}

-- ---- no move

-- a machine that shows what it showed before leads there by no move
still : (sizes : Sizes) (old new : Machine) → ((share : ℕ) → word_at new share ≡ word_at old share)
    → ((seat : ℕ) → (row_at new seat).transit ≡ (row_at old seat).transit)
    → ((seat : ℕ) → (row_at new seat).claims ≡ (row_at old seat).claims)
    → StepsByMoves sizes old new
still sizes old new w t c holders s = ([], holders, refl, shows_still sizes old new holders w t c s)

pub unmoved : (sizes : Sizes) (machine : Machine) → StepsByMoves sizes machine machine
unmoved sizes machine = still sizes machine machine (λ _. refl) (λ _. refl) (λ _. refl)

forgotten : (sizes : Sizes) (machine : Machine) (seat : ℕ)
    → StepsByMoves sizes machine (forgets machine seat)
forgotten sizes machine seat =
    still sizes machine (forgets machine seat) (λ _. refl) (forgets_transit machine seat)
    (forgets_claims machine seat)

remembered : (sizes : Sizes) (machine : Machine) (seat : ℕ) (load : Remembered)
    → StepsByMoves sizes machine (remembers machine seat load)
remembered sizes machine seat load =
    still sizes machine (remembers machine seat load) (λ _. refl)
    (remembers_transit machine seat load) (remembers_claims machine seat load)

-- ---- holders

-- a unit in a range stands between its ends
between : (u start end : ℕ) → inside u start end ≡ 1 → (start ≤ u) × (u < end)
between u start end h =
    elim (side u start end) [
      | within s e i ↦ (s, e)
      | before l i ↦ absurd
          (omega arith)
      | after m i ↦ absurd (omega arith)
    ]

module _ (sizes : Sizes) (machine : Machine) (holders : Holders)
    (shows : Shows sizes machine holders) where
  -- a unit in a share's word is pending there, and a unit that is pending at a share is in its word
  pending_there : (u share : ℕ) → u < sizes.units → in_word u (word_at machine share) ≡ 1
      → holders u ≡ pending share
  pending_there u share h i =
      same_holder (pending share) (holders u) (sym (shows.words u share h) ∙ i)

  in_the_word : (u share : ℕ) → u < sizes.units → holders u ≡ pending share
      → in_word u (word_at machine share) ≡ 1
  in_the_word u share h e = shows.words u share h ∙ ap (λ x. same (pending share) x) e
      ∙ same_self (pending share)

  carried_there : (u seat : ℕ) → u < sizes.units → in_transit u (row_at machine seat).transit ≡ 1
      → holders u ≡ carried seat
  carried_there u seat h i =
      same_holder (carried seat) (holders u) (sym (shows.transits u seat h) ∙ i)

  in_the_transit : (u seat : ℕ) → u < sizes.units → holders u ≡ carried seat
      → in_transit u (row_at machine seat).transit ≡ 1
  in_the_transit u seat h e = shows.transits u seat h ∙ ap (λ x. same (carried seat) x) e
      ∙ same_self (carried seat)

-- ---- a claim

module _ (sizes : Sizes) (old : Machine) (state : IsStateOf sizes old) (seat : ℕ)
    (can : CanClaim sizes old seat (word_at old (share_of sizes seat)))
    (some : ¬ IsEmptyWord (word_at old (share_of sizes seat))) where
  abbrev own : ℕ
  own = share_of sizes seat

  abbrev had : ℕ
  had = word_at old own

  abbrev cells : Range ℕ
  cells = claim_cells sizes had

  abbrev gained : Machine
  gained = gains old seat cells

  abbrev claimer : Machine
  claimer = with_word (forgets gained seat) own (packed (claim_stop sizes had) (end_of had))

  -- the claim is a nonempty front of the word
  front : (start_of had < claim_stop sizes had) × (claim_stop sizes had ≤ end_of had)
      × (end_of had ≤ sizes.units)
  front = claim_front sizes state.sound had (state.words own) some

  claim_changes : Changes sizes (start_of had) (claim_stop sizes had) (pending own)
      (claimed seat) old claimer
  claim_changes =
      let load = remembered_within sizes old state seat _ can in
      let there : seat < length old.seat_rows = rememberer old seat _ can in
      let fits = state.sound.units_fit in
      record {
        words = λ u k h. elim (cases_eq k own) [
          | inl e ↦ gives (ap pending e) refl
              (rw (
                e,
                word_there (forgets gained seat) own
                    (packed (claim_stop sizes had) (end_of had))
                    (omega (arith, load.0, state.shares)),
              )
              (cut_front u had (claim_stop sizes had) (omega (arith, front.0)) front.1
              (omega (arith, front.2))))
          | inr n ↦ keeps (other_pending k own n) refl
              (ap (λ w. in_word u w) (word_elsewhere (forgets gained seat) own
              (packed (claim_stop sizes had) (end_of had)) k n))
        ];
        transits = λ u k h. keeps refl refl
            (ap (λ t. in_transit u t) (forgets_transit gained seat k
            ∙ gains_transit old seat cells k));
        claims = λ c k h. elim (cases_eq k seat) [
          | inl e ↦ takes (ap claimed e) refl
              (rw e (ap (λ rs. in_ranges c rs)
              (forgets_claims gained seat seat ∙ gains_there old seat cells there)
              ∙ in_ranges_push c (row_at old seat).claims cells
              ∙ ap (λ m. in_ranges c (row_at old seat).claims + m)
              (inside_cells c (start_of had) (claim_stop sizes had) sizes.unit sizes.cells
              state.sound.unit_counts h)))
          | inr n ↦ keeps refl (other_claimed k seat n)
              (ap (λ rs. in_ranges c rs) (forgets_claims gained seat k
              ∙ gains_elsewhere old seat cells k n))
        ];
        no_more = λ c k h. elim (cases_eq k seat) [
          | inl e ↦ rw e (ap (λ rs. in_ranges c rs)
              (forgets_claims gained seat seat ∙ gains_there old seat cells there)
              ∙ in_ranges_push c (row_at old seat).claims cells
              ∙ omega (
                arith,
                inside_no_cells c (start_of had)
                    (claim_stop sizes had) sizes.unit sizes.cells h,
              ))
          | inr n ↦ ap (λ rs. in_ranges c rs)
              (forgets_claims gained seat k ∙ gains_elsewhere old seat cells k n)
        ];
      }

  claims_move : StepsByMoves sizes old claimer
  claims_move holders s =
      let from : ℕ = start_of had in
      let to : ℕ = claim_stop sizes had in
      let giver : (u : ℕ) → u < sizes.units → inside u from to ≡ 1 → holders u ≡ pending own =
      λ u h i. let b = between u from to i in pending_there sizes old holders s u own h
      (inside_within u from (end_of had) b.0 (omega (arith, b.1, front.1))) in
      let move : Claims sizes seat from to holders (handed from to (claimed seat) holders) =
      record {
        seat_exists = omega (arith, rememberer old seat _ can, state.seats);
        some = front.0;
        within = omega (arith, front.1, front.2);
        front =
            λ u h e. (between u from (end_of had) (in_the_word sizes old holders s u own h e)).0;
        hands = hands_over sizes.units from to (pending own) (claimed seat) holders giver;
      } in (
        claim seat from to ∷ [],
        handed from to (claimed seat) holders,
        (holders, refl, move),
        shows_handed sizes state.sound from to (pending own)
            (claimed seat) old claimer holders claim_changes giver s,
      )

-- ---- a steal

module _ (sizes : Sizes) (old : Machine) (state : IsStateOf sizes old) (seat : ℕ)
    (load : Remembered) (can : CanSteal sizes old seat load) (pays : Pays sizes load.word)
    (found : word_at old load.share ≡ load.word) where
  abbrev loaded : ℕ
  loaded = load.word

  abbrev back : Range ℕ
  back = record { start = middle_of loaded; end = end_of loaded }

  abbrev forgot : Machine
  forgot = forgets old seat

  abbrev thief : Machine
  thief = with_word (carries forgot seat (Some back)) load.share
      (packed (start_of loaded) (middle_of loaded))

  -- the back half is nonempty, and so is what is left
  halves : (start_of loaded < middle_of loaded) × (middle_of loaded < end_of loaded)
      × (end_of loaded ≤ sizes.units)
  halves = two_halves sizes loaded (remembered_within sizes old state seat load can.0).1 pays

  steal_changes : Changes sizes (middle_of loaded) (end_of loaded) (pending load.share)
      (carried seat) old thief
  steal_changes =
      let l = remembered_within sizes old state seat load can.0 in
      let there : seat < length old.seat_rows = rememberer old seat load can.0 in
      let fits = state.sound.units_fit in
      record {
        words = λ u k h. elim (cases_eq k load.share) [
          | inl e ↦ gives (ap pending e) refl
              (rw (
                e,
                word_there (carries forgot seat (Some back)) load.share
                    (packed (start_of loaded) (middle_of loaded))
                    (omega (arith, l.0, state.shares)),
                found,
              ) (cut_back u loaded (middle_of loaded) (omega (arith, halves.0))
              (omega (arith, halves.1)) (omega (arith, halves.2))))
          | inr n ↦ keeps (other_pending k load.share n) refl
              (ap (λ w. in_word u w) (word_elsewhere (carries forgot seat (Some back)) load.share
              (packed (start_of loaded) (middle_of loaded)) k n))
        ];
        transits = λ u k h. elim (cases_eq k seat) [
          | inl e ↦ takes (ap carried e) refl
              (rw (
                e,
                carries_there forgot seat (Some back)
                    (omega (
                      arith,
                      there,
                      length-set old.seat_rows seat
                          (record (row_at old seat) { remembered = None }),
                    )),
                can.2,
              ) (omega arith))
          | inr n ↦ keeps refl (other_carried k seat n)
              (ap (λ t. in_transit u t) (carries_elsewhere forgot seat (Some back) k n
              ∙ forgets_transit old seat k))
        ];
        claims = λ c k h. keeps refl refl
            (ap (λ rs. in_ranges c rs) (carries_claims forgot seat (Some back) k
            ∙ forgets_claims old seat k));
        no_more = λ c k h. ap (λ rs. in_ranges c rs)
            (carries_claims forgot seat (Some back) k ∙ forgets_claims old seat k);
      }

  steals_move : StepsByMoves sizes old thief
  steals_move holders s =
      let from : ℕ = middle_of loaded in
      let to : ℕ = end_of loaded in
      let l = remembered_within sizes old state seat load can.0 in
      let giver : (u : ℕ) → u < sizes.units → inside u from to ≡ 1
      → holders u ≡ pending load.share = λ u h i. let b = between u from to i in pending_there
      sizes old holders s u load.share h
      (rw found (inside_within u (start_of loaded) to (omega (arith, b.0, halves.0)) b.1)) in
      let move : Steals sizes seat load.share from to holders
      (handed from to (carried seat) holders) = record {
        cut = steal_cuts sizes old state seat load can;
        seat_exists = omega (arith, rememberer old seat load can.0, state.seats);
        share_exists = l.0;
        other = can.1;
        some = halves.1;
        within = halves.2;
        back =
            λ u h e. (between u (start_of loaded) to
            (rw found at (in_the_word sizes old holders s u load.share h e))).1;
        leaves = (
          start_of loaded,
          halves.0,
          pending_there sizes old holders s
              (start_of loaded) load.share (omega (arith, halves.0, halves.1, halves.2))
              (rw found (inside_within (start_of loaded) (start_of loaded) to (omega arith)
              (omega (arith, halves.0, halves.1)))),
        );
        hands = hands_over sizes.units from to (pending load.share) (carried seat) holders giver;
      } in (
        steal seat load.share from to ∷ [],
        handed from to (carried seat) holders,
        (holders, refl, move),
        shows_handed sizes state.sound from to (pending load.share)
            (carried seat) old thief holders steal_changes giver s,
      )

-- ---- a refill

module _ (sizes : Sizes) (old : Machine) (state : IsStateOf sizes old) (seat : ℕ) (units : Range ℕ)
    (can : CanRefill sizes old seat units) where
  abbrev mine : ℕ
  mine = share_of sizes seat

  abbrev filled : Machine
  filled = with_word (carries old seat None) mine (packed units.start units.end)

  mine_exists : mine < shares_of sizes
  mine_exists = share_exists sizes seat
      (omega (arith, carrier old seat units can.0, state.seats))

  refill_changes : Changes sizes units.start units.end (carried seat) (pending mine) old filled
  refill_changes =
      let c = carried_within sizes old state seat units can.0 in
      let there : seat < length old.seat_rows = carrier old seat units can.0 in
      let fits : units.end ≤ 65535 = omega (arith, c.1, state.sound.units_fit) in
      record {
        words = λ u k h. elim (cases_eq k mine) [
          | inl e ↦ takes (ap pending e) refl
              (rw (
                e,
                word_there (carries old seat None) mine (packed units.start units.end)
                    (omega (arith, mine_exists, state.shares)),
                start_of_packed units.start units.end fits,
                end_of_packed units.start units.end fits,
              )
              (omega (
                arith,
                inside_nothing u (start_of (word_at old mine))
                    (end_of (word_at old mine)) (omega (arith, can.1)),
              )))
          | inr n ↦ keeps refl (other_pending k mine n)
              (ap (λ w. in_word u w) (word_elsewhere (carries old seat None) mine
              (packed units.start units.end) k n))
        ];
        transits = λ u k h. elim (cases_eq k seat) [
          | inl e ↦ gives (ap carried e) refl
              (rw (e, carries_there old seat None there, can.0) (omega arith))
          | inr n ↦ keeps (other_carried k seat n) refl
              (ap (λ t. in_transit u t) (carries_elsewhere old seat None k n))
        ];
        claims =
            λ c k h. keeps refl refl (ap (λ rs. in_ranges c rs) (carries_claims old seat None k));
        no_more = λ c k h. ap (λ rs. in_ranges c rs) (carries_claims old seat None k);
      }

  refills_move : StepsByMoves sizes old filled
  refills_move holders s =
      let from : ℕ = units.start in
      let to : ℕ = units.end in
      let c = carried_within sizes old state seat units can.0 in
      let giver : (u : ℕ) → u < sizes.units → inside u from to ≡ 1 → holders u ≡ carried seat =
      λ u h i. carried_there sizes old holders s u seat h (rw can.0 i) in
      let move : Refills sizes seat from to holders (handed from to (pending mine) holders) =
      record {
        seat_exists = omega (arith, carrier old seat units can.0, state.seats);
        some = c.0;
        within = c.1;
        all =
            λ u h e. between u from to (rw can.0 at
            (in_the_transit sizes old holders s u seat h e));
        empty =
            λ u h e. omega (
              arith,
              in_the_word sizes old holders s u mine h e,
              inside_nothing u (start_of (word_at old mine)) (end_of (word_at old mine))
                  (omega (arith, can.1)),
            );
        hands = hands_over sizes.units from to (carried seat) (pending mine) holders giver;
      } in (
        refill seat from to ∷ [],
        handed from to (pending mine) holders,
        (holders, refl, move),
        shows_handed sizes state.sound from to (carried seat)
            (pending mine) old filled holders refill_changes giver s,
      )

-- ---- every event

module _ (sizes : Sizes) (old : Machine) (state : IsStateOf sizes old) where
  load_moves : (seat share : ℕ) (outcome : Outcome) (new : Machine)
      → LoadAnswers old seat share outcome new → StepsByMoves sizes old new
  load_moves seat share (Loaded word) new (can, w, e) =
      rw e (remembered sizes old seat (record { share = share; word = word }))
  load_moves seat share Refused new (_, e) = rw e (unmoved sizes old)
  load_moves seat share _ new a = absurd a

  claim_moves : (seat : ℕ) (outcome : Outcome) (new : Machine)
      → ClaimAnswers sizes old seat outcome new → StepsByMoves sizes old new
  claim_moves seat Empty new (word, can, empty, e) = rw e (forgotten sizes old seat)
  claim_moves seat Lost new (word, can, some, lost, e) = rw e (forgotten sizes old seat)
  claim_moves seat (Claimed cells) new (word, can, some, found, is, e) =
      rw (e, is, ← found) (claims_move sizes old state seat (rw found can) (rw found some))
  claim_moves seat Refused new (_, e) = rw e (unmoved sizes old)
  claim_moves seat _ new a = absurd a

  steal_moves : (seat : ℕ) (outcome : Outcome) (new : Machine)
      → StealAnswers sizes old seat outcome new → StepsByMoves sizes old new
  steal_moves seat Nothing new (load, can, pays, e) = rw e (forgotten sizes old seat)
  steal_moves seat Lost new (load, can, pays, lost, e) = rw e (forgotten sizes old seat)
  steal_moves seat (Taken units) new (load, can, pays, found, is, e) =
      rw (e, is) (steals_move sizes old state seat load can pays found)
  steal_moves seat Refused new (_, e) = rw e (unmoved sizes old)
  steal_moves seat _ new a = absurd a

  refill_moves : (seat : ℕ) (outcome : Outcome) (new : Machine)
      → RefillAnswers sizes old seat outcome new → StepsByMoves sizes old new
  refill_moves seat (Refilled word) new (units, can, is, e) =
      rw (e, is) (refills_move sizes old state seat units can)
  refill_moves seat Refused new (_, e) = rw e (unmoved sizes old)
  refill_moves seat _ new a = absurd a

  pub answers_move : (event : Event) (outcome : Outcome) (new : Machine)
      → Answers sizes old event outcome new → StepsByMoves sizes old new
  answers_move (Load seat share) outcome new a = load_moves seat share outcome new a
  answers_move (Claim seat) outcome new a = claim_moves seat outcome new a
  answers_move (Steal seat) outcome new a = steal_moves seat outcome new a
  answers_move (Refill seat) outcome new a = refill_moves seat outcome new a
