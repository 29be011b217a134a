-- What stands at each share and seat after each change of a machine.
use Rattle.parallel_shares.proofs.Common.{◌≡◌, ◌≢◌, ℕ, ◌<◌, ◌++◌, [], ◌∷◌, length, Option, Some, None, refl, sym, ap, ◌∙◌, get_or-set_same, get_or-set_other, Range, SeatRow, Remembered, Machine}
use Rattle.parallel_shares.proofs.Common.{fresh, word_at, row_at, with_word, remembers, forgets, gains, carries}
use Rattle.parallel_shares.proofs.ListWrites.{set_same, stands}

pub word_there : (machine : Machine) (share word : ℕ) → share < length machine.words
    → word_at (with_word machine share word) share ≡ word
word_there machine share word h = get_or-set_same machine.words share word 0 h

pub word_elsewhere : (machine : Machine) (share word other : ℕ) → other ≢ share
    → word_at (with_word machine share word) other ≡ word_at machine other
word_elsewhere machine share word other n = get_or-set_other machine.words share other word 0 n

-- ---- a seat's load changes no transit and no claims

pub remembers_transit : (machine : Machine) (seat : ℕ) (load : Remembered) (k : ℕ)
    → (row_at (remembers machine seat load) k).transit ≡ (row_at machine k).transit
remembers_transit machine seat load = set_same (λ (p : SeatRow). p.transit) machine.seat_rows seat
    (record (row_at machine seat) { remembered = Some load }) fresh refl

pub remembers_claims : (machine : Machine) (seat : ℕ) (load : Remembered) (k : ℕ)
    → (row_at (remembers machine seat load) k).claims ≡ (row_at machine k).claims
remembers_claims machine seat load = set_same (λ (p : SeatRow). p.claims) machine.seat_rows seat
    (record (row_at machine seat) { remembered = Some load }) fresh refl

pub forgets_transit : (machine : Machine) (seat k : ℕ)
    → (row_at (forgets machine seat) k).transit ≡ (row_at machine k).transit
forgets_transit machine seat = set_same (λ (p : SeatRow). p.transit) machine.seat_rows seat
    (record (row_at machine seat) { remembered = None }) fresh refl

pub forgets_claims : (machine : Machine) (seat k : ℕ)
    → (row_at (forgets machine seat) k).claims ≡ (row_at machine k).claims
forgets_claims machine seat = set_same (λ (p : SeatRow). p.claims) machine.seat_rows seat
    (record (row_at machine seat) { remembered = None }) fresh refl

-- ---- claims change no transit

pub gains_transit : (machine : Machine) (seat : ℕ) (cells : Range ℕ) (k : ℕ)
    → (row_at (gains machine seat cells) k).transit ≡ (row_at machine k).transit
gains_transit machine seat cells = set_same (λ (p : SeatRow). p.transit) machine.seat_rows seat
    (record (row_at machine seat) { claims = (row_at machine seat).claims ++ cells ∷ [] }) fresh
    refl

pub gains_there : (machine : Machine) (seat : ℕ) (cells : Range ℕ) → seat < length machine.seat_rows
    → (row_at (gains machine seat cells) seat).claims ≡ (row_at machine
    seat).claims ++ cells ∷ []
gains_there machine seat cells h =
    ap (λ (p : SeatRow). p.claims) (get_or-set_same machine.seat_rows seat
    (record (row_at machine seat) { claims = (row_at machine seat).claims ++ cells ∷ [] })
    fresh h)

pub gains_elsewhere : (machine : Machine) (seat : ℕ) (cells : Range ℕ) (k : ℕ) → k ≢ seat
    → (row_at (gains machine seat cells) k).claims ≡ (row_at machine k).claims
gains_elsewhere machine seat cells k n =
    ap (λ (p : SeatRow). p.claims) (get_or-set_other machine.seat_rows seat k
    (record (row_at machine seat) { claims = (row_at machine seat).claims ++ cells ∷ [] })
    fresh n)

-- ---- a transit changes no claims

pub carries_claims : (machine : Machine) (seat : ℕ) (units : Option (Range ℕ)) (k : ℕ)
    → (row_at (carries machine seat units) k).claims ≡ (row_at machine k).claims
carries_claims machine seat units = set_same (λ (p : SeatRow). p.claims) machine.seat_rows seat
    (record (row_at machine seat) { transit = units }) fresh refl

pub carries_there : (machine : Machine) (seat : ℕ) (units : Option (Range ℕ))
    → seat < length machine.seat_rows → (row_at (carries machine seat units) seat).transit ≡ units
carries_there machine seat units h =
    ap (λ (p : SeatRow). p.transit) (get_or-set_same machine.seat_rows seat
    (record (row_at machine seat) { transit = units }) fresh h)

pub carries_elsewhere : (machine : Machine) (seat : ℕ) (units : Option (Range ℕ)) (k : ℕ) → k ≢ seat
    → (row_at (carries machine seat units) k).transit ≡ (row_at machine k).transit
carries_elsewhere machine seat units k n =
    ap (λ (p : SeatRow). p.transit) (get_or-set_other machine.seat_rows seat k
    (record (row_at machine seat) { transit = units }) fresh n)

-- ---- a seat that remembers or carries something exists

pub rememberer : (machine : Machine) (seat : ℕ) (load : Remembered)
    → (row_at machine seat).remembered ≡ Some load → seat < length machine.seat_rows
rememberer machine seat load e =
    stands (λ (p : SeatRow). p.remembered) machine.seat_rows seat fresh
    (λ n. let b : Some load ≡ None = sym e ∙ n in cc)

pub carrier : (machine : Machine) (seat : ℕ) (units : Range ℕ)
    → (row_at machine seat).transit ≡ Some units → seat < length machine.seat_rows
carrier machine seat units e =
    stands (λ (p : SeatRow). p.transit) machine.seat_rows seat fresh
    (λ n. let b : Some units ≡ None = sym e ∙ n in cc)
