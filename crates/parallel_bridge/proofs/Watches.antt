-- How two halves of a part end together, and what the seats of their watches then say together.
use Rattle.parallel_bridge.proofs.Common.{◌≡◌, ℕ, ◌+◌, ◌-◌, ◌/◌, ◌≤◌, ◌<◌, List, [], ◌++◌, All, Contains, IfOk, Result, Ok, Err, refl, sym, subst, ◌∙◌, arith, ◌⊎◌, inl, inr, All-append, All-weaker, All-contains, Contains-append_left, Contains-append_right}
use Rattle.parallel_bridge.proofs.Common.{Trouble, Closure, OfFault, PutTogether, UnlessRefused, Halt, Failed, Stopped, GateSeat, GateView, GateWatch, greatest, gathered, newcomer, IsGateSeatOf, All-nil, front_half, back_half, known, stands_for}
use Rattle.parallel_bridge.proofs.Common.{IsFull, OneAfterAnother, View, written, IsUnhalted, NotStopped, halting}
use Rattle.parallel_bridge.specs.Endings.{EndTogether, Ending, IsUnstopped, SeatEnds, ToldAfter, WatchEnds, WatchesJoin, ending, ending_of, failing, refusing, stopping, well}
use Rattle.parallel_bridge.specs.Fills.{Filled}
use Rattle.parallel_bridge.specs.declared.gate.Gate.{Gate}
use Rattle.parallel_bridge.proofs.Unhalt.{driven_unhalted, ok_meets, written_unhalted}

-- who told nothing told no start in front of anything
silent : (P : ℕ → Type 0) (told : List ℕ) → told ≡ [] → All P told
silent P told none = subst (All P) (sym none) (All-nil P)

-- ---- two halves under the eye of a gate

module _ (start half count seats : ℕ) (within : half ≤ count) (positive : 0 < half)
    (v w : GateView) where
  -- two that ended well
  both_told : (z : Ending) → v.told ≡ [] → w.told ≡ [] → (z ≡ well) ⊎ (z ≡ refusing)
      → ToldAfter start count (gathered v w) z
  both_told z left right (inl is) = rw is (λ i. left i ++ right i)
  both_told z left right (inr is) =
      rw is (silent (λ told. start < told) (v.told ++ w.told) (λ i. left i ++ right i))

  told_together : (x y z : Ending) → ToldAfter start half v x
      → ToldAfter (start + half) (count - half) w y → All (λ told. start + half ≤ told) w.told
      → EndTogether x y z → ToldAfter start count (gathered v w) z
  told_together well well z left right beyond is = both_told z left right is
  told_together well failing z left (at, near, far, has, least) beyond is =
      let all = silent (λ told. at ≤ told) v.told left in rw is (
        at,
        omega arith,
        omega arith,
        Contains-append_right v.told w.told at has,
        All-append (λ told. at ≤ told) v.told w.told all least,
      )
  told_together well stopping z left (at, near, less, far) beyond is =
      let all = silent (λ told. at ≤ told) v.told left in
      rw is (at, omega arith, omega arith, All-append (λ told. at ≤ told) v.told w.told all far)
  told_together well refusing z left right beyond is = rw is (All-append (λ told. start < told)
      v.told w.told (silent (λ told. start < told) v.told left)
      (All-weaker (λ told. start + half < told) (λ told. start < told) (λ told h. omega arith)
      w.told right))
  told_together failing y z (at, near, far, has, least) right beyond is =
      let all = All-weaker (λ told. start + half ≤ told) (λ told. at ≤ told) (λ told h. omega arith)
      w.told beyond in rw is (
        at,
        omega arith,
        omega arith,
        Contains-append_left v.told w.told at has,
        All-append (λ told. at ≤ told) v.told w.told least all,
      )
  told_together stopping y z (at, near, less, none) right beyond is =
      let all = All-weaker (λ told. start + half ≤ told) (λ told. at ≤ told) (λ told h. omega arith)
      w.told beyond in
      rw is (at, omega arith, omega arith, All-append (λ told. at ≤ told) v.told w.told none all)
  told_together refusing y z left right beyond is = rw is (All-append (λ told. start < told)
      v.told w.told left
      (All-weaker (λ told. start + half ≤ told) (λ told. start < told) (λ told h. omega arith)
      w.told beyond))

  seats_joined : (x y z : Ending) → SeatEnds start half (seats / 2) v x
      → SeatEnds (start + half) (count - half) (seats - seats / 2) w y → EndTogether x y z
      → SeatEnds start count seats (gathered v w) z
  seats_joined x y z left right is = (
    omega (arith, left.0, right.0),
    All-append (λ told. start ≤ told) v.told w.told left.1
        (All-weaker (λ told. start + half ≤ told) (λ told. start ≤ told) (λ told h. omega arith)
        w.told right.1),
    told_together x y z left.2 right.2 right.1 is,
  )

-- the watches of both halves, together, say of the whole what the one that was halved may come to
pub watches_joined : (self left right : GateWatch) (len : ℕ) → 2 ≤ len → left.gate ≡ self.gate
    → left.start ≡ self.start → right.start ≡ self.start + len / 2
    → known left.seat ≡ front_half (known self.seat)
    → known right.seat ≡ back_half (known self.seat) → (x y z : Ending) (a b c : GateWatch)
    → WatchEnds left (len / 2) a x → WatchEnds right (len - len / 2) b y → WatchesJoin a b c
    → EndTogether x y z → WatchEnds self len c z
watches_joined self left right len long gate starts next front back x y z a b c l r joins is =
    let one = subst (λ (p : ℕ × ℕ). SeatEnds p.0 (len / 2) p.1 (known a.seat) x)
    (λ i. (starts i, (front i).seats)) l.4 in
    let two = subst (λ (p : ℕ × ℕ). SeatEnds p.0 (len - len / 2) p.1 (known b.seat) y)
    (λ i. (next i, (back i).seats)) r.4 in
    let some = l.3 in let seats : stands_for c.seat ≡ stands_for a.seat + stands_for b.seat =
    λ i. (joins.3 i).seats in (
      joins.0 ∙ l.0 ∙ gate,
      joins.1 ∙ l.1 ∙ starts,
      joins.2,
      omega (arith, seats, some),
      subst (λ u. SeatEnds self.start len (stands_for self.seat) u z) (sym joins.3)
          (seats_joined self.start (len / 2) len (stands_for self.seat) (omega arith)
          (omega (arith, long)) (known a.seat) (known b.seat) x y z one two is),
    )

-- the whole list isn't stopped, by what the gate says at its end
pub list_unstopped : (count seats word : ℕ) (v : GateView) (how : Ending) → count ≤ greatest
    → SeatEnds 0 count seats v how
    → ((start : ℕ) → start ≤ greatest → v.least < start → (word < start) × Contains v.told word)
    → IsUnstopped how
list_unstopped count seats word v stopping small (same, from, (at, near, less, beyond)) closed =
    let end = closed at (omega arith) less in
    let far : at ≤ word = All-contains (λ told. at ≤ told) v.told word beyond end.1 in
    let under = end.0 in
    omega arith
list_unstopped count seats word v how small ends closed = tt

-- a seat that stands for all of a gate that was just opened may watch that many items, from the
-- first one on
pub fresh_watch : (gate : Gate) (seat : GateSeat) (n count : ℕ) → IsGateSeatOf gate seat
    → known seat ≡ newcomer n → 0 < n → count ≤ n → count ≤ greatest
    → (IsGateSeatOf gate seat × (0 < stands_for seat) × ((known seat).told ≡ []))
    × (count ≤ stands_for seat) × (0 + count ≤ greatest)
fresh_watch gate seat n count belongs fresh positive enough small =
    let seats : stands_for seat ≡ n = λ i. (fresh i).seats in (
      (belongs, omega (arith, seats), λ i. (fresh i).told),
      omega (arith, seats),
      omega arith,
    )

-- ---- outcomes

-- a segment's end is its part's
pub halt_ends : (R S : Type 0) {E : Type 0} (halt : Halt E)
    → ending {R = R} (Err halt) ≡ ending_of {R = S} (Err (Closure halt))
halt_ends R S (Failed e) = refl
halt_ends R S Stopped = refl

pub not_stopped : {R E : Type 0} (done : Result R (Trouble (Halt E)))
    → IsUnstopped (ending_of done) → NotStopped done
not_stopped (Err (Closure Stopped)) h = h
not_stopped done h = tt

module _ {R E : Type 0} (node : R → R → Result R (Halt E) → Type 0)
    (never : (a b : R) (e : Halt E) → node a b (Err e) → ⊥) where
  left_trouble : (t : Trouble (Halt E)) (y : Ending)
      → EndTogether (ending_of {R = R} (Err t)) y (ending_of {R = R} (Err t))
  left_trouble (Closure (Failed e)) y = refl
  left_trouble t y = refl

  right_trouble : (t : Trouble (Halt E))
      → EndTogether well (ending_of {R = R} (Err t)) (ending_of {R = R} (Err t))
  right_trouble (Closure (Failed e)) = refl
  right_trouble t = refl

  two_values : (a b : R) (c : Result R (Trouble (Halt E))) → UnlessRefused c (λ out. node a b out)
      → EndTogether well well (ending_of c)
  two_values a b (Ok r) n = inl refl
  two_values a b (Err (Closure e)) n = absurd (never a b e n)
  two_values a b (Err (OfFault f)) n = inr refl

  -- outcomes that are put together end together
  pub ends_together : (a b c : Result R (Trouble (Halt E))) → PutTogether node a b c
      → EndTogether (ending_of a) (ending_of b) (ending_of c)
  ends_together (Err t) b c is =
      subst (λ r. EndTogether (ending_of {R = R} (Err t)) (ending_of b) (ending_of r)) (sym is)
      (left_trouble t (ending_of b))
  ends_together (Ok a) (Err t) c is =
      subst (λ r. EndTogether well (ending_of {R = R} (Err t)) (ending_of r)) (sym is)
      (right_trouble t)
  ends_together (Ok a) (Ok b) c is = two_values a b c is

-- ---- windows

-- the values don't matter to how an outcome ended
written_ends : {T E : Type 0} (window : View T) (done : Result (Unit {0}) (Trouble (Halt E)))
    → ending_of (written window done) ≡ ending_of done
written_ends window (Err (Closure (Failed e))) = refl
written_ends window done = refl

pub windows_together : {T E : Type 0} (a b c : View T)
    (x y z : Result (Unit {0}) (Trouble (Halt E)))
    → PutTogether OneAfterAnother (written a x) (written b y) (written c z)
    → EndTogether (ending_of x) (ending_of y) (ending_of z)
windows_together a b c x y z is =
    subst (λ (e : Ending × Ending × Ending). EndTogether e.0 e.1 e.2)
    (λ i. (written_ends a x i, written_ends b y i, written_ends c z i))
    (ends_together OneAfterAnother (λ p q e none. none) (written a x) (written b y) (written c z) is)

unhalted_full : {E : Type 0} (Full : Type 0) (done : Result (Unit {0}) (Trouble (Halt E)))
    (result : Result (Unit {0}) (Trouble E)) → IsUnhalted done result → IfOk done (λ _. Full)
    → IfOk result (λ _. Full)
unhalted_full Full (Err (Closure Stopped)) result is h = absurd is
unhalted_full Full done result is h = rw is h

-- what was filled under a watch was filled, where no stop stands
pub filled_unhalted : {P X T E : Type 0} (gives : P → List X → Type 0) (parts : P)
    (leaf : List X → Result (List T) E → Type 0) (depth : ℕ) (room window : View T)
    (done : Result (Unit {0}) (Trouble (Halt E))) (result : Result (Unit {0}) (Trouble E))
    → IsUnhalted done result → Filled gives parts (halting leaf) depth room window done
    → Filled gives parts leaf depth room window result
filled_unhalted {T = T} gives parts leaf depth room window done result is filled = (
  filled.0,
  unhalted_full (IsFull window) done result is
      filled.1,
  driven_unhalted leaf OneAfterAnother OneAfterAnother
      (ok_meets (λ (a b l : List T). l ≡ a ++ b)) gives parts depth (written window done)
      (written window result) filled.2 (written_unhalted window done result is),
)
