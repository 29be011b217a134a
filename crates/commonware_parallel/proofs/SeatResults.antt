-- What the seats that came back have together: results in chains, over stretches that cut the grid.
use Rattle.commonware_parallel.proofs.Common.{◌≡◌, ℕ, zero, suc, ◌*◌, ◌<◌, List, [], ◌∷◌, ◌++◌, All, Ok, IfOk, map, length, get_or, true, None, refl, sym, ap, subst, ◌∙◌, append-nil, append_assoc}
use Rattle.commonware_parallel.proofs.Common.{arith, AllZip, Range, length-map, map-append, All-nil, All-append, Stretch, Finished, IsFront, in_ranges, same_number, plan_of, index_of, claims_of}
use Rattle.commonware_parallel.proofs.Common.{has_emptied, transit_of, IsSeatOf, AreSeatsOf, EachCellOnce, Work, sizes_of, IsStretch, Cutting, cut_cells, total, times, total_append, StatesFrom, finished_append}
use Rattle.commonware_parallel.proofs.Common.{Stateful, no_segment, more_segments, Chains, no_chain, more_chains, CutsRectangle, IsWholeRow, seat_of, WorksFrom, AllResults}
use Rattle.parallel_bridge.proofs.Shapes.{MapOf-append}
use Rattle.std.proofs.lemmas.Slice.Zip.{AllZip-long}
use Rattle.std.specs.declared.alloc.Global.{Global}
use Rattle.std.specs.declared.vec.Vec.{Vec}
use Rattle.parallel_shares.specs.declared.shares.Shares.{Shares}
use Rattle.parallel_shares.specs.declared.shares.seat.Seat.{Seat}
use Rattle.parallel_shares.specs.Steals.{FoundNothing}
use Rattle.commonware_parallel.specs.declared.tiles.seats.Worked.{Worked}
use Rattle.commonware_parallel.proofs.Rectangles.{times_all, cut_append, apart_each, cuts}
use Rattle.commonware_parallel.proofs.WholeRowCuts.{fronts_cut}

-- ---- chains

-- no result
pub chains_of_none : {T R : Type 0} (init : T → Type 0) (fill : T → ℕ → Range ℕ → T → Type 0)
    (ends : T → Stretch → R → T → Type 0) (rs : List R) → rs ≡ [] → Chains init fill ends [] rs
chains_of_none init fill ends rs none = subst (Chains init fill ends []) (sym none) no_chain

-- one chain
pub chains_of_one : {T R : Type 0} (init : T → Type 0) (fill : T → ℕ → Range ℕ → T → Type 0)
    (ends : T → Stretch → R → T → Type 0) (s t : T) (xs : List Stretch) (rs : List R) → init s
    → Finished fill ends s xs rs t → Chains init fill ends xs rs
chains_of_one init fill ends s t xs rs fresh h =
    more_chains s t xs [] rs [] (sym (append-nil xs)) (sym (append-nil rs)) fresh h no_chain

-- ---- results

-- the results of one seat more
pub results_push : {R : Type 0} (ws : List (Worked R)) (w : Worked R) (rs after : List R)
    (v : Vec R Global) → AllResults ws rs → w.results ≡ Ok v → after ≡ rs ++ v.items
    → AllResults (ws ++ w ∷ []) after
results_push [] w rs after v none ok grew =
    (v, [], ok, refl, grew ∙ ap (λ l. l ++ v.items) none ∙ sym (append-nil v.items))
results_push (u ∷ ws) w rs after v (x, more, first, others, joined) ok grew = (
  x,
  more ++ v.items,
  first,
  results_push ws w more (more ++ v.items) v others ok refl,
  grew
      ∙ ap (λ l. l ++ v.items) joined ∙ append_assoc x.items more v.items,
)

-- the results of two lists of seats
results_split : {R : Type 0} (ws vs : List (Worked R)) (rs : List R) → AllResults (ws ++ vs) rs
    → (front back : List R) × AllResults ws front × AllResults vs back × (rs ≡ front ++ back)
results_split [] vs rs all = ([], rs, refl, all, refl)
results_split (w ∷ ws) vs rs (v, more, ok, others, joined) =
    let n = results_split ws vs more others in (
      v.items ++ n.0,
      n.1,
      (v, n.0, ok, n.2, refl),
      n.3,
      joined ∙ ap (λ l. v.items ++ l) n.4
          ∙ sym (append_assoc v.items n.0 n.1),
    )

module _ {T R : Type 0} (init : T → Type 0) (shares : Shares) (len : ℕ)
    (fill : T → ℕ → Range ℕ → T → Type 0) (ends : T → Stretch → R → T → Type 0) where
  -- ---- the seats, place by place

  -- a seat as it was and as it came back
  pub record Came (seat : Seat) (w : Worked R) : Type 0 where
    pub belongs : IsSeatOf shares (seat_of w)
    pub number : index_of (seat_of w) ≡ index_of seat
    pub done : IfOk w.results (λ _. FoundNothing shares seat (seat_of w))

  came : (s : T) (xs : List Seat) (ws : List (Worked R))
      → StatesFrom (WorksFrom shares len fill ends) s xs ws → AllZip Came xs ws
  came s [] ws none = subst (AllZip Came []) (sym none) tt
  came s (x ∷ xs) [] wrong = absurd wrong
  came s (x ∷ xs) (w ∷ ws) (t, step, rest) =
      (record { belongs = step.belongs; number = step.number; done = step.done }, came t xs ws rest)

  pub all_came : {xs : List Seat} {ws : List (Worked R)}
      → Stateful init (WorksFrom shares len fill ends) xs ws → AllZip Came xs ws
  all_came no_segment = tt
  all_came (more_segments x xs rest ys more at answers (s, fresh, h) tail) =
      rw (at, answers) (MapOf-append Came (x ∷ xs) rest ys more (came s (x ∷ xs) ys h) (all_came tail))

  at_place : (xs : List Seat) (ws : List (Worked R)) → AllZip Came xs ws → (i : ℕ) (d : Seat)
      → i < length ws → IsSeatOf shares (get_or (map seat_of ws) i d)
      × (index_of (get_or (map seat_of ws) i d) ≡ index_of (get_or xs i d))
  at_place [] [] z i d h = absurd (omega (arith, h))
  at_place [] (w ∷ ws) z i d h = absurd z
  at_place (x ∷ xs) [] z i d h = absurd z
  at_place (x ∷ xs) (w ∷ ws) z zero d h = (z.0.belongs, z.0.number)
  at_place (x ∷ xs) (w ∷ ws) z (suc i) d h = at_place xs ws z.1 i d (omega (arith, h))

  done_at : (xs : List Seat) (ws : List (Worked R)) (rs : List R) → AllZip Came xs ws
      → AllResults ws rs → (i : ℕ) (d : Seat) → i < length ws
      → (has_emptied (get_or (map seat_of ws) i d) ≡ true)
      × (transit_of (get_or (map seat_of ws) i d) ≡ None)
  done_at xs [] rs z all i d h = absurd (omega (arith, h))
  done_at [] (w ∷ ws) rs z all i d h = absurd z
  done_at (x ∷ xs) (w ∷ ws) rs z (v, more, ok, others, joined) zero d h =
      let found =
      subst (λ r. IfOk r (λ _. FoundNothing shares x (seat_of w))) ok z.0.done in
      (found.emptied, found.transit)
  done_at (x ∷ xs) (w ∷ ws) rs z (v, more, ok, others, joined) (suc i) d h =
      done_at xs ws more z.1 others i d (omega (arith, h))

  module _ (xs : List Seat) (ws : List (Worked R)) (z : AllZip Came xs ws) where
    pub seats_back : AreSeatsOf shares xs → AreSeatsOf shares (map seat_of ws)
    seats_back all = record {
      count = length-map ws seat_of ∙ AllZip-long Came xs ws z ∙ all.count;
      each = λ i d h. (at_place xs ws z i d (omega (arith, h, length-map ws seat_of))).0;
      order = λ i d h. (at_place xs ws z i d (omega (arith, h, length-map ws seat_of))).1
          ∙ all.order i d (omega (arith, h, length-map ws seat_of, AllZip-long Came xs ws z));
    }

    pub all_done : (rs : List R) → AllResults ws rs → (i : ℕ) (d : Seat)
        → i < length (map seat_of ws) → (has_emptied (get_or (map seat_of ws) i d) ≡ true)
        × (transit_of (get_or (map seat_of ws) i d) ≡ None)
    all_done rs all i d h = done_at xs ws rs z all i d (omega (arith, h, length-map ws seat_of))

  -- ---- the stretches

  module _ (work : Work) (same : work.len ≡ len) (planned : plan_of shares ≡ sizes_of work)
      (wide : 0 < len) where
    -- the stretches have the cells that the seats claimed
    pub record Part (cut : List Stretch) (ws : List (Worked R)) : Type 0 where
      pub cells : (k : ℕ) → times k (cut_cells len cut) ≡ total (λ s. in_ranges k (claims_of s))
          (map seat_of ws)
      pub stretches : All (IsStretch len) cut
      pub rows : work.whole ≡ true → All (IsWholeRow len) cut

    part_none : Part [] []
    part_none = record {
      cells = λ k. refl;
      stretches = All-nil (IsStretch len);
      rows = λ _. All-nil (IsWholeRow len);
    }

    part_one : (w : Worked R) (gained : List (Range ℕ)) (cut : List Stretch)
        → claims_of (seat_of w) ≡ gained → All (IsFront (plan_of shares)) gained
        → Cutting gained len cut → Part cut (w ∷ [])
    part_one w gained cut claimed fronts h = record {
      cells = λ k. omega (arith, ap (times k) h.0, times_all k gained, ap (in_ranges k) claimed);
      stretches = apart_each len cut h.1;
      rows = λ whole.
          let there : All (IsFront (sizes_of work)) gained =
          subst (λ p. All (IsFront p) gained) planned fronts in
          let cutting : Cutting gained work.len cut =
          subst (λ n. Cutting gained n cut) (sym same) h in
          subst (λ n. All (IsWholeRow n) cut) same
          (fronts_cut work whole gained cut (omega (arith, wide, same)) there cutting);
    }

    part_more : (a b : List Stretch) (ws vs : List (Worked R)) → Part a ws → Part b vs
        → Part (a ++ b) (ws ++ vs)
    part_more a b ws vs p q = record {
      cells = λ k. omega (
        arith,
        ap (times k) (cut_append len a b),
        total_append (same_number k) (cut_cells len a) (cut_cells len b),
        p.cells k,
        q.cells k,
        ap (total (λ s. in_ranges k (claims_of s))) (map-append seat_of ws vs),
        total_append (λ s. in_ranges k (claims_of s)) (map seat_of ws) (map seat_of vs),
      );
      stretches = All-append (IsStretch len) a b p.stretches q.stretches;
      rows = λ whole. All-append (IsWholeRow len) a b (p.rows whole) (q.rows whole);
    }

    -- the seats of one segment, with the state that goes from seat to seat
    chain_of : (s : T) (xs : List Seat) (ws : List (Worked R)) (rs : List R)
        → StatesFrom (WorksFrom shares len fill ends) s xs ws → AllResults ws rs → (t : T)
        × (cut : List Stretch) × Finished fill ends s cut rs t × Part cut ws
    chain_of s [] ws rs none all =
        let no_results : rs ≡ [] = subst (λ v. AllResults v rs) none all in (
          s,
          [],
          subst (λ v. Finished fill ends s [] v s) (sym no_results) refl,
          subst (Part []) (sym none) part_none,
        )
    chain_of s (x ∷ xs) [] rs wrong all = absurd wrong
    chain_of s (x ∷ xs) (w ∷ ws) rs (t, step, rest) (v, more, ok, others, joined) =
        let one =
        subst (λ r. IfOk r (λ results. (gained : List (Range ℕ)) × (cut : List Stretch)
        × (claims_of (seat_of w) ≡ claims_of x ++ gained)
        × All (IsFront (plan_of shares)) gained × Cutting gained len cut
        × Finished fill ends s cut results.items t)) ok step.chain in
        let next = chain_of t xs ws more rest others in
        let claimed : claims_of (seat_of w) ≡ one.0 = one.2 ∙ ap (λ c. c ++ one.0) step.fresh in (
          next.0,
          one.1 ++ next.1,
          rw joined
              (finished_append fill ends s t next.0 one.1 next.1 v.items more one.5 next.2),
          part_more one.1 next.1 (w ∷ []) ws (part_one w one.0 one.1 claimed one.3 one.4) next.3,
        )

    -- all seats, segment by segment
    pub chains_of : {xs : List Seat} {ws : List (Worked R)}
        → Stateful init (WorksFrom shares len fill ends) xs ws → (rs : List R) → AllResults ws rs
        → (cut : List Stretch) × Chains init fill ends cut rs × Part cut ws
    chains_of no_segment rs all =
        ([], subst (Chains init fill ends []) (sym all) no_chain, part_none)
    chains_of (more_segments x xs rest ys more at answers (s, fresh, h) tail) rs all =
        let split = results_split ys more rs (subst (λ v. AllResults v rs) answers all) in
        let one = chain_of s (x ∷ xs) ys split.0 h split.2 in
        let next = chains_of tail split.1 split.3 in (
          one.1 ++ next.0,
          more_chains s one.0 one.1 next.0 split.0 split.1 refl split.4 fresh one.2
              next.1,
          subst (Part (one.1 ++ next.0)) (sym answers)
              (part_more one.1 next.0 ys more one.3 next.2),
        )

    -- where the seats have each cell once, the stretches cut the grid
    pub rectangle : (cut : List Stretch) (ws : List (Worked R)) → Part cut ws
        → EachCellOnce (plan_of shares) (map seat_of ws) → CutsRectangle work.rows len cut
    rectangle cut ws part once =
        let cells : (plan_of shares).cells ≡ work.rows * len = ap (λ p. p.cells) planned
        ∙ ap (λ n. work.rows * n) same in
        cuts work.rows len (plan_of shares).cells cut cells part.stretches
        (λ k h. part.cells k ∙ once.once k h) (λ k h. part.cells k ∙ once.no_more k h)
