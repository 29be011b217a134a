-- Waking workers one after another, and what it does to the counts.
use Rattle.parallel_pool.proofs.Common.{◌≡◌, ◌≢◌, ℕ, ◌+◌, ◌≤◌, ◌<◌, Bool, true, false, cond, List, [], ◌∷◌, ◌++◌, length, take, set, get_or, filter, count_by, Contains, refl, sym, ap, subst, ◌∙◌}
use Rattle.parallel_pool.proofs.Common.{⊎_elim, zero, suc, arith, length-set, length-append, append-nil, true≢false, get_or-set_same, get_or-set_other, sum_by-set, sum_by-cons, count_by-le-length}
use Rattle.parallel_pool.proofs.Common.{take_all, get_or_past, dite, dec_le, ℕ_discrete, Working, Looking, Sleeping, is_blocked, is_inactive, is_looking, standing_at, sleeping_in, inactive_in}
use Rattle.parallel_pool.proofs.Common.{looking_in, blocked_of, AreWoken}
use Rattle.std.specs.List.{range_with_len}
use Rattle.std.proofs.lemmas.List.Elements.{filter_more, Contains-append_left, Contains-append_right, Contains-append_cases}
use Rattle.std.proofs.lemmas.List.FromFn.{length-range_with_len, get_or-range_with_len}
use Rattle.parallel_pool.specs.declared.sleep.standing.Standing.{Standing}

-- the number of a standing's test, 1 or 0
abbrev pub one_if : Bool → ℕ
one_if b = cond b 1 0

-- a count after one worker's standing has changed
pub count_set : (p : Standing → Bool) (workers : List Standing) (i : ℕ) (s : Standing)
    → i < length workers
    → count_by p (set workers i s) + one_if
    (p (standing_at workers i)) ≡ count_by p workers + one_if (p s)
count_set p workers i s there = sum_by-set (λ x. cond (p x) 1 0) workers i s Working there

-- the blocked workers below i, lowest index first
abbrev pub blocked_below : ℕ → List Standing → List ℕ
blocked_below i workers = filter (λ worker. is_blocked (standing_at workers worker))
    (take i (range_with_len 0 (length workers)))

-- one more index brings one more worker where that one is blocked
pub blocked_more : (i : ℕ) (workers : List Standing) → i < length workers
    → blocked_below (i + 1) workers ≡ blocked_below i workers ++ cond
    (is_blocked (standing_at workers i)) (i ∷ []) []
blocked_more i workers there =
    let all : List ℕ = range_with_len 0 (length workers) in
    let here : get_or all i 0 ≡ i = get_or-range_with_len 0 (length workers) i 0 there
    ∙ omega arith in
    let long : i < length all = omega (arith, length-range_with_len 0 (length workers)) in
    filter_more (λ worker. is_blocked (standing_at workers worker)) all i 0 long
    ∙ ap (λ k. blocked_below i workers ++ cond (is_blocked (standing_at workers k)) (k ∷ []) [])
    here

take_nothing : (n : ℕ) → take n (let none : List ℕ = [] in none) ≡ []
take_nothing zero = refl
take_nothing (suc n) = refl

-- while fewer than n were taken, one more is taken whole
pub take_one : (n : ℕ) (xs : List ℕ) (x : ℕ) → length (take n xs) < n
    → take n (xs ++ x ∷ []) ≡ take n xs ++ x ∷ []
take_one zero xs x few = absurd (omega arith)
take_one (suc n) [] x few = ap (λ l. x ∷ l) (take_nothing n)
take_one (suc n) (y ∷ ys) x few = ap (λ l. y ∷ l) (take_one n ys x (omega arith))

-- once n were taken, no more are
pub take_no_more : (n : ℕ) (xs ys : List ℕ) → n ≤ length (take n xs) → take n (xs ++ ys) ≡ take n xs
take_no_more zero xs ys full = refl
take_no_more (suc n) [] ys full = absurd (omega arith)
take_no_more (suc n) (x ∷ xs) ys full = ap (λ l. x ∷ l) (take_no_more n xs ys (omega arith))

-- nobody is woken at first
pub woken_none : (workers : List Standing) → AreWoken [] workers workers
woken_none workers =
    record {
      as_many = refl;
      looking = λ worker h. absurd (omega (arith, h.1));
      others = λ worker no. refl;
    }

-- a list of one has that one
only : (x y : ℕ) → Contains (y ∷ []) x → x ≡ y
only x y h =
    let first : h.0 ≡ 0 = omega (arith, h.1) in
    sym h.2 ∙ ap (λ k. get_or (y ∷ []) k x) first

-- one more worker is woken
pub woken_more : (woken : List ℕ) (before now : List Standing) (i : ℕ) → i < length now
    → AreWoken woken before now → AreWoken (woken ++ i ∷ []) before (set now i Looking)
woken_more woken before now i there so_far = record {
  as_many = length-set now i Looking ∙ so_far.as_many;
  looking = λ worker listed. dite (ℕ_discrete worker i)
      (λ e. ap (standing_at (set now i Looking)) e ∙ get_or-set_same now i Looking Working there)
      (λ ne. get_or-set_other now i worker Looking Working ne
      ∙ so_far.looking worker (⊎_elim (λ h. h) (λ h. absurd (ne (only worker i h)))
      (Contains-append_cases woken (i ∷ []) worker listed)));
  others = λ worker no.
      let ne : worker ≢ i =
      λ e. no (Contains-append_right woken (i ∷ []) worker (0, omega arith, sym e)) in
      get_or-set_other now i worker Looking Working ne
      ∙ so_far.others worker (λ h. no (Contains-append_left woken (i ∷ []) worker h));
}

-- how far a walk over the workers below i has come that wakes the first ones
pub record IsWokenBelow (most : ℕ) (before : List Standing) (i : ℕ) (woken : List ℕ)
    (now : List Standing) : Type 0 where
  pub first : woken ≡ take most (blocked_below i before)
  pub standings : AreWoken woken before now
  pub ahead : (k : ℕ) → i ≤ k → standing_at now k ≡ standing_at before k
  pub sleeping : sleeping_in now + length woken ≡ sleeping_in before
  pub inactive : inactive_in now ≡ inactive_in before

pub starts_waking : (most : ℕ) (before : List Standing) → IsWokenBelow most before 0 [] before
starts_waking most before = record {
  first = sym (take_nothing most);
  standings = woken_none before;
  ahead = λ k h. refl;
  sleeping = omega arith;
  inactive = refl;
}

-- a standing that is blocked is that of a sleeper
pub asleep : (s : Standing) → is_blocked s ≡ true → s ≡ Sleeping
asleep Working e = absurd (true≢false (sym e))
asleep Looking e = absurd (true≢false (sym e))
asleep Sleeping e = refl

-- a blocked worker is woken while there are too few
pub wakes_one : (most : ℕ) (before : List Standing) (i : ℕ) (woken : List ℕ) (now : List Standing)
    → IsWokenBelow most before i woken now
    → i < length now → length woken < most → is_blocked (standing_at now i) ≡ true
    → IsWokenBelow most before (i + 1) (woken ++ i ∷ []) (set now i Looking)
wakes_one most before i woken now h there few blocked =
    let same : standing_at now i ≡ standing_at before i = h.ahead i (omega arith) in
    let was : is_blocked (standing_at before i) ≡ true = ap is_blocked (sym same) ∙ blocked in
    let more : blocked_below (i + 1) before ≡ blocked_below i before ++ i ∷ [] =
    blocked_more i before (omega (arith, h.standings.as_many))
    ∙ ap (λ b. blocked_below i before ++ cond b (i ∷ []) []) was in
    let few' : length (take most (blocked_below i before)) < most =
    subst (λ l. length l < most) h.first few in
    let sleep = count_set is_blocked now i Looking there in
    let idle = count_set is_inactive now i Looking there in
    let is_asleep : standing_at now i ≡ Sleeping = asleep (standing_at now i) blocked in record {
      first = ap (λ l. l ++ i ∷ []) h.first
          ∙ (sym (take_one most (blocked_below i before) i few') ∙ ap (take most) (sym more));
      standings = woken_more woken before now i there h.standings;
      ahead = λ k far. get_or-set_other now i k Looking Working (λ e. absurd (omega arith))
          ∙ h.ahead k (omega arith);
      sleeping =
          omega (
            arith,
            sleep,
            ap (λ b. one_if b) blocked,
            h.sleeping,
            length-append woken (i ∷ []),
          );
      inactive = omega (arith, idle, ap (λ s. one_if (is_inactive s)) is_asleep, h.inactive);
    }

-- a worker that isn't blocked is passed over
pub passes_awake : (most : ℕ) (before : List Standing) (i : ℕ) (woken : List ℕ)
    (now : List Standing) → IsWokenBelow most before i woken now
    → i < length now → is_blocked (standing_at now i) ≡ false
    → IsWokenBelow most before (i + 1) woken now
passes_awake most before i woken now h there awake =
    let same : standing_at now i ≡ standing_at before i = h.ahead i (omega arith) in
    let was : is_blocked (standing_at before i) ≡ false = ap is_blocked (sym same) ∙ awake in
    let more : blocked_below (i + 1) before ≡ blocked_below i before =
    blocked_more i before (omega (arith, h.standings.as_many))
    ∙ (ap (λ b. blocked_below i before ++ cond b (i ∷ []) []) was
    ∙ append-nil (blocked_below i before)) in record {
      first = h.first ∙ ap (take most) (sym more);
      standings = h.standings;
      ahead = λ k far. h.ahead k (omega arith);
      sleeping = h.sleeping;
      inactive = h.inactive;
    }

-- once enough are woken, every further one is passed over
pub passes_all : (most : ℕ) (before : List Standing) (i : ℕ) (woken : List ℕ) (now : List Standing)
    → IsWokenBelow most before i woken now
    → i < length now → most ≤ length woken → IsWokenBelow most before (i + 1) woken now
passes_all most before i woken now h there enough =
    let full : most ≤ length (take most (blocked_below i before)) =
    subst (λ l. most ≤ length l) h.first enough in
    let more = blocked_more i before (omega (arith, h.standings.as_many)) in record {
      first =
          h.first ∙ (sym (take_no_more most (blocked_below i before)
          (cond (is_blocked (standing_at before i)) (i ∷ []) []) full) ∙ ap (take most) (sym more));
      standings = h.standings;
      ahead = λ k far. h.ahead k (omega arith);
      sleeping = h.sleeping;
      inactive = h.inactive;
    }

-- after all workers, the first blocked ones are woken
pub all_below : (workers : List Standing)
    → blocked_below (length workers) workers ≡ blocked_of workers
all_below workers =
    let all : List ℕ = range_with_len 0 (length workers) in
    ap (filter (λ worker. is_blocked (standing_at workers worker)))
    (take_all (length workers) all (omega (arith, length-range_with_len 0 (length workers))))

-- the count of one worker more
count_cons : (p : Standing → Bool) (s : Standing) (ss : List Standing)
    → count_by p (s ∷ ss) ≡ one_if (p s) + count_by p ss
count_cons p s ss = sum_by-cons (λ x. cond (p x) 1 0) s ss

-- an inactive worker looks or is blocked, and never both
one_of_two : (s : Standing) → one_if (is_looking s) + one_if (is_blocked s) ≡ one_if (is_inactive s)
one_of_two Working = refl
one_of_two Looking = refl
one_of_two Sleeping = refl

-- so the inactive ones are those that look and those that are blocked
pub looking_or_blocked : (workers : List Standing)
    → looking_in workers + sleeping_in workers ≡ inactive_in workers
looking_or_blocked [] = refl
looking_or_blocked (s ∷ ss) = omega (
  arith,
  looking_or_blocked ss,
  one_of_two s,
  count_cons is_looking s ss,
  count_cons is_blocked s ss,
  count_cons is_inactive s ss,
)

-- no more are blocked than are inactive
pub blocked_inactive : (workers : List Standing) → sleeping_in workers ≤ inactive_in workers
blocked_inactive workers = omega (arith, looking_or_blocked workers)

-- there are no more inactive workers than workers
pub few_inactive : (workers : List Standing) → inactive_in workers ≤ length workers
few_inactive workers = count_by-le-length is_inactive workers

-- both counts after a worker's standing has changed from s to t
pub record IsRestood (workers : List Standing) (i : ℕ) (s t : Standing) : Type 0 where
  pub sleeping : sleeping_in (set workers i t) + one_if
      (is_blocked s) ≡ sleeping_in workers + one_if (is_blocked t)
  pub inactive : inactive_in (set workers i t) + one_if
      (is_inactive s) ≡ inactive_in workers + one_if (is_inactive t)
  pub most : inactive_in (set workers i t) ≤ length workers

pub restands : (workers : List Standing) (i : ℕ) (s t : Standing) → i < length workers
    → standing_at workers i ≡ s → IsRestood workers i s t
restands workers i s t there is = record {
  sleeping = ap (λ x. sleeping_in (set workers i t) + one_if (is_blocked x)) (sym is)
      ∙ count_set is_blocked workers i t there;
  inactive = ap (λ x. inactive_in (set workers i t) + one_if (is_inactive x)) (sym is)
      ∙ count_set is_inactive workers i t there;
  most = omega (arith, few_inactive (set workers i t), length-set workers i t);
}

-- a standing that isn't inactive is that of one who works
pub active_works : (s : Standing) → is_inactive s ≡ false → s ≡ Working
active_works Working e = refl
active_works Looking e = absurd (true≢false e)
active_works Sleeping e = absurd (true≢false e)

-- one that is inactive and not blocked is that of one who looks
pub awake_looks : (s : Standing) → is_inactive s ≡ true → is_blocked s ≡ false → s ≡ Looking
awake_looks Working e f = absurd (true≢false (sym e))
awake_looks Looking e f = refl
awake_looks Sleeping e f = absurd (true≢false f)

-- a worker that doesn't exist counts as working
pub beyond_works : (workers : List Standing) (i : ℕ) → length workers ≤ i
    → standing_at workers i ≡ Working
beyond_works workers i far = get_or_past workers i Working far

-- so one that stands otherwise exists
pub inactive_exists : (workers : List Standing) (i : ℕ) → is_inactive (standing_at workers i) ≡ true
    → i < length workers
inactive_exists workers i idle = dite (dec_le (length workers) i)
    (λ far. absurd (true≢false (sym idle ∙ ap is_inactive (beyond_works workers i far))))
    (λ near. omega arith)
