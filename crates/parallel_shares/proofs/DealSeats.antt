-- Seats that are dealt out one after another.
use Rattle.parallel_shares.proofs.Common.{◌≡◌, ℕ, zero, suc, ◌+◌, ◌-◌, ◌<◌, false, List, [], ◌∷◌, ◌++◌, None, length, get_or, drop, take, refl, sym, ap, subst, ◌∙◌, arith, range_with_len, length_push}
use Rattle.parallel_shares.proofs.Common.{length-replicate, View, Seat, Shares, Sizes, shares_of, fresh_view, undealt, dealt_from, dealt, known, index_of, IsSeatOf, AreSeatsOf, AreFresh, IsFresh}
use Rattle.parallel_shares.proofs.Common.{Carries}

-- what holds of each element at its place, and of one more after them
pub each_push : {A : Type 0} (P : ℕ → A → Type 0) (xs : List A) (x : A) (n : ℕ) → length xs ≡ n
    → ((i : ℕ) (d : A) → i < length xs → P i (get_or xs i d)) → P n x → (i : ℕ) (d : A)
    → i < length (xs ++ x ∷ []) → P i (get_or (xs ++ x ∷ []) i d)
each_push P [] x zero l each last zero d h = last
each_push P [] x (suc n) l each last i d h = absurd (omega (arith, l))
each_push P [] x zero l each last (suc i) d h = absurd (omega (arith, h))
each_push P (y ∷ ys) x zero l each last i d h = absurd (omega (arith, l))
each_push P (y ∷ ys) x (suc n) l each last zero d h = each zero d (omega arith)
each_push P (y ∷ ys) x (suc n) l each last (suc i) d h =
    each_push (λ j. P (suc j)) ys x n (omega (arith, l))
    (λ j e k. each (suc j) e (omega arith)) last i d (omega arith)

-- the numbers from one on: the first, and those after it
range_from : (number count : ℕ) → number < count
    → range_with_len number (count - number) ≡ number ∷ range_with_len (number + 1)
    (count - (number + 1))
range_from number count h =
    let e : count - number ≡ suc (count - (number + 1)) = omega arith in
    ap (range_with_len number) e

module _ (sizes : Sizes) (number : ℕ) (more : number < sizes.workers) where
  pub rest_dealt : dealt_from (undealt sizes number) ≡ undealt sizes (number + 1)
  rest_dealt = ap (λ ns. fresh_view sizes (drop 1 ns)) (range_from number sizes.workers more)

  pub first_dealt : dealt (undealt sizes number) ≡ fresh_view sizes (number ∷ [])
  first_dealt = ap (λ ns. fresh_view sizes (take 1 ns)) (range_from number sizes.workers more)

-- the last seat has what is left
pub last_left : (sizes : Sizes) (number : ℕ) → number + 1 ≡ sizes.workers
    → undealt sizes number ≡ fresh_view sizes (number ∷ [])
last_left sizes number last =
    let none_left : sizes.workers - (number + 1) ≡ 0 = omega arith in
    ap (fresh_view sizes) (range_from number sizes.workers (omega arith))
    ∙ ap (λ k. fresh_view sizes (number ∷ range_with_len (number + 1) k)) none_left

-- a seat with a fresh view is a seat of the shares
module _ (shares : Shares) (x : Seat) (number : ℕ)
    (table : x.seat.table_id ≡ shares.table.shared.table_id) (index : x.index ≡ number)
    (exists : number < shares.plan.workers)
    (view : x.seat.me ≡ (fresh_view shares.plan (number ∷ []), [])) (full : x.own_empty ≡ false)
    (empty_handed : x.transit ≡ None) where
  knows : known x ≡ fresh_view shares.plan (number ∷ [])
  knows = ap (λ m. m.0) view

  pub is_seat : IsSeatOf shares x
  is_seat = record {
    table = table;
    index = omega (arith, index, exists);
    plan = ap (λ (v : View). v.plan) knows;
    words = ap (λ (v : View). length v.words) knows ∙ length-replicate (shares_of shares.plan) 0;
    loads = ap (λ (v : View). length v.loads) knows ∙ length-replicate (shares_of shares.plan) 0;
    carries = subst (Carries shares.plan x.own_empty) (sym empty_handed) tt;
  }

  pub is_fresh : IsFresh x
  is_fresh = (
    ap (λ (v : View). v.claims) knows,
    empty_handed,
    full,
    ap (λ (v : View). v.changes) knows,
    ap (λ (v : View). v.exchanges) knows,
  )

-- the seats of the numbers below one
pub record Dealt (shares : Shares) (n : ℕ) (seats : List Seat) : Type 0 where
  pub count : length seats ≡ n
  pub each : (i : ℕ) (d : Seat) → i < length seats → IsSeatOf shares (get_or seats i d)
  pub order : (i : ℕ) (d : Seat) → i < length seats → index_of (get_or seats i d) ≡ i
  pub fresh : AreFresh seats

pub dealt_none : (shares : Shares) (seats : List Seat) → seats ≡ [] → Dealt shares 0 seats
dealt_none shares seats e =
    subst (λ xs. Dealt shares 0 xs) (sym e)
    (record {
      count = refl;
      each = λ i d h. absurd (omega (arith, h));
      order = λ i d h. absurd (omega (arith, h));
      fresh = λ i d h. absurd (omega (arith, h));
    })

pub dealt_more : (shares : Shares) (n : ℕ) (seats more : List Seat) (x : Seat)
    → Dealt shares n seats → IsSeatOf shares x → index_of x ≡ n → IsFresh x → more ≡ seats ++ x ∷ []
    → Dealt shares (n + 1) more
dealt_more shares n seats more x d is at_n fresh e =
    subst (λ xs. Dealt shares (n + 1) xs) (sym e)
    (record {
      count = omega (arith, length_push seats x, d.count);
      each = each_push (λ i s. IsSeatOf shares s) seats x n d.count d.each is;
      order = each_push (λ i s. index_of s ≡ i) seats x n d.count d.order at_n;
      fresh = each_push (λ i s. IsFresh s) seats x n d.count d.fresh fresh;
    })

pub all_dealt : (shares : Shares) (n : ℕ) (seats : List Seat) → n ≡ shares.plan.workers
    → Dealt shares n seats → AreSeatsOf shares seats
all_dealt shares n seats e d = record { count = d.count ∙ e; each = d.each; order = d.order }
