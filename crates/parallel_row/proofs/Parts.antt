-- Parts of a list that is cut, or changed at one of them.
use Rattle.parallel_row.proofs.Common.{◌≡◌, ◌≢◌, ℕ, zero, suc, ◌+◌, ◌-◌, ◌<◌, ◌≤◌, ◌∙◌, min, inl, inr, List, [], ◌∷◌, ◌++◌, length, get_or, take, drop, refl, sym, ap, subst, arith}
use Rattle.parallel_row.proofs.Common.{length-append, take_all, drop-append-add, drop-append-le, take-append-le, cases_lt, length-drop, Range, AcceptsCut, ChangesCut, AcceptsAt, ChangesAt, Rises, part_of_cut, place_in}
use Rattle.std.specs.Borrow.{MutBor}
use denote.Param.Members.{Shared}

-- the same call, seen elsewhere
pub seen_elsewhere : {X : Type 0} (R : ℕ → X → X → Type 0) {i j : ℕ} {x x' y y' : X} → i ≡ j
    → x ≡ x' → y ≡ y' → R i x y → R j x' y'
seen_elsewhere R {i} {j} {x} {x'} {y} {y'} at old new call =
    subst (λ k. R k x' y') at (subst (λ z. R i z y') old (subst (R i x) new call))

-- ---- stretches of a list of two

module _ {X : Type 0} (front back : List X) where
  -- a stretch of the front
  stretch_before : (a b : ℕ) → a + b ≤ length front
      → take b (drop a (front ++ back)) ≡ take b (drop a front)
  stretch_before a b fits =
      ap (take b) (drop-append-le a front back (omega (arith, fits)))
      ∙ take-append-le b (drop a front) back (omega (arith, fits, length-drop a front))

  -- a stretch of the back
  stretch_after : (a b c : ℕ) → a ≡ length front + c
      → take b (drop a (front ++ back)) ≡ take b (drop c back)
  stretch_after a b c is =
      ap (λ k. take b (drop k (front ++ back))) is ∙ ap (take b) (drop-append-add front back c)

-- ---- a list that is changed at one part

module _ {X : Type 0} (place : ℕ → ℕ) (rises : Rises place) (begin n : ℕ) (from : begin ≤ n)
    (front back : List X) (at : length front ≡ place n - place begin) where
  -- the part
  pub cut_here : (xs : List X) → length xs ≡ place (n + 1) - place n
      → part_of_cut place begin n (front ++ (xs ++ back)) ≡ xs
  cut_here xs len =
      stretch_after front (xs ++ back) (place n - place begin) (place (n + 1) - place n) 0
      (omega (arith, at))
      ∙ (take-append-le (place (n + 1) - place n) xs back (omega (arith, len))
      ∙ take_all (place (n + 1) - place n) xs (omega (arith, len)))

  -- another one
  pub cut_elsewhere : (old new : List X) → length old ≡ place (n + 1) - place n
      → length new ≡ length old → (m : ℕ) → begin ≤ m → m ≢ n
      → part_of_cut place begin m (front ++ (new ++ back))
      ≡ part_of_cut place begin m (front ++ (old ++ back))
  cut_elsewhere old new len same m low other =
      let a = place m - place begin in
      let b = place (m + 1) - place m in
      elim (cases_lt m n)
      as (λ _. part_of_cut place begin m (front ++ (new ++ back))
      ≡ part_of_cut place begin m (front ++ (old ++ back))) [
        | inl less ↦
            let ends = rises (m + 1) n (omega (arith, less)) in
            let inside : a + b ≤ length front =
            omega (arith, at, ends, rises begin m low, rises m (m + 1) (omega arith)) in
            stretch_before front (new ++ back) a b inside
            ∙ sym (stretch_before front (old ++ back) a b inside)
        | inr more ↦
            let less : n < m = omega (arith, more, λ (e : m ≡ n). other e) in
            let c = place m - place (n + 1) in
            let begins = rises (n + 1) m (omega (arith, less)) in
            let to : (xs : List X) → length xs ≡ length old
            → part_of_cut place begin m (front ++ (xs ++ back)) ≡ take b (drop c back) =
            λ xs e. stretch_after front (xs ++ back) a b (length xs + c)
            (omega (arith, at, begins, e, len, rises begin n from, rises n (n + 1) (omega arith)))
            ∙ stretch_after xs back (length xs + c) b c refl in
            to new same ∙ sym (to old refl)
      ]

-- ---- a list that is cut before one of its parts

module _ {X : Type 0} (place : ℕ → ℕ) (rises : Rises place) (begin middle : ℕ)
    (from : begin ≤ middle) (front back : List X)
    (at : length front ≡ place middle - place begin) where
  -- a part of the front
  pub part_before : (n : ℕ) → begin ≤ n → n < middle
      → part_of_cut place begin n (front ++ back) ≡ part_of_cut place begin n front
  part_before n low high =
      stretch_before front back (place n - place begin) (place (n + 1) - place n)
      (omega (
        arith,
        at,
        rises begin n low,
        rises n (n + 1) (omega arith),
        rises (n + 1) middle (omega (arith, high)),
      ))

  -- a part of the back
  pub part_after : (n : ℕ) → middle ≤ n
      → part_of_cut place begin n (front ++ back) ≡ part_of_cut place middle n back
  part_after n low =
      stretch_after front back (place n - place begin) (place (n + 1) - place n)
      (place n - place middle) (omega (arith, at, rises begin middle from, rises middle n low))

module _ {X : Type 0} (R : ℕ → List X → List X → Type 0) (place : ℕ → ℕ) (rises : Rises place)
    (begin middle end : ℕ) (from : begin ≤ middle) (all front back front' back' : List X)
    (cut : all ≡ front ++ back) (at : length front ≡ place middle - place begin) where
  -- where each part of both has changed, each of the whole has
  pub both_cuts_changed : length front' ≡ length front
      → ((n : ℕ) → begin ≤ n → n < middle
      → R (place n) (part_of_cut place begin n front) (part_of_cut place begin n front'))
      → ((n : ℕ) → middle ≤ n → n < end
      → R (place n) (part_of_cut place middle n back) (part_of_cut place middle n back'))
      → (n : ℕ) → begin ≤ n → n < end
      → R (place n) (part_of_cut place begin n all)
      (part_of_cut place begin n (front' ++ back'))
  both_cuts_changed same a b n low high =
      let was = ap (λ xs. part_of_cut place begin n xs) cut in
      let at' = same ∙ at in
      elim (cases_lt n middle)
      as (λ _. R (place n) (part_of_cut place begin n all)
      (part_of_cut place begin n (front' ++ back'))) [
        | inl less ↦
            seen_elsewhere R refl
            (sym (was ∙ part_before place rises begin middle from front back at n low less))
            (sym (part_before place rises begin middle from front' back' at' n low less))
            (a n low less)
        | inr more ↦
            seen_elsewhere R refl
            (sym (was ∙ part_after place rises begin middle from front back at n more))
            (sym (part_after place rises begin middle from front' back' at' n more))
            (b n more high)
      ]

-- ---- what a closure accepts, and leaves, of a list that is cut before one of its parts

module _ {F X : Type 0}
    (g : Shared F (ℕ × (MutBor (List X) × Unit {0})) (Unit {0} × (MutBor (List X) × Unit {0})))
    (f : F) (place : ℕ → ℕ) (begin middle end : ℕ) (all front back : List X)
    (accepts : AcceptsCut g f place begin end all) (cut : all ≡ front ++ back)
    (at : length front ≡ place middle - place begin) (from : begin ≤ middle)
    (below : middle ≤ end) where
  pub front_accepted : AcceptsCut g f place begin middle front
  front_accepted = (
    accepts.0,
    from,
    omega (arith, at, accepts.0 begin middle from),
    λ n low high. subst (AcceptsAt g f (place n))
        (ap (λ xs. part_of_cut place begin n xs) cut
        ∙ part_before place accepts.0 begin middle from front back at n low high)
        (accepts.3 n low (omega (arith, high, below))),
  )

  pub back_accepted : AcceptsCut g f place middle end back
  back_accepted = (
    accepts.0,
    below,
    omega (
      arith,
      at,
      accepts.0 begin middle from,
      accepts.2,
      ap length cut,
      length-append front back,
    ),
    λ n low high. subst (AcceptsAt g f (place n))
        (ap (λ xs. part_of_cut place begin n xs) cut
        ∙ part_after place accepts.0 begin middle from front back at n low)
        (accepts.3 n (omega (arith, from, low)) high),
  )

  pub both_changed : (front' back' : List X) → ChangesCut g f place begin middle front front'
      → ChangesCut g f place middle end back back'
      → ChangesCut g f place begin end all (front' ++ back')
  both_changed front' back' a b = (
    omega (
      arith,
      a.0,
      b.0,
      ap length cut,
      length-append front back,
      length-append front' back',
    ),
    both_cuts_changed (ChangesAt g f) place accepts.0 begin middle end from all front back front'
        back' cut at a.0 a.1 b.1,
  )

-- ---- ranges

-- where no range is before it, a place is the first one
pub place_in-none : (from : ℕ) (rs : List (Range ℕ)) (n : ℕ) → min n (length rs) ≡ 0
    → place_in from rs n ≡ from
place_in-none from [] n none = refl
place_in-none from (r ∷ rs) zero none = refl
place_in-none from (r ∷ rs) (suc n) none = absurd (omega (arith, none))

-- else it is the end of the last one before it
pub place_in-end : (from : ℕ) (rs : List (Range ℕ)) (n k : ℕ) (d : Range ℕ)
    → k + 1 ≡ min n (length rs) → place_in from rs n ≡ (get_or rs k d).end
place_in-end from [] n k d is = absurd (omega (arith, is))
place_in-end from (r ∷ rs) zero k d is = absurd (omega (arith, is))
place_in-end from (r ∷ rs) (suc n) zero d is = place_in-none r.end rs n (omega (arith, is))
place_in-end from (r ∷ rs) (suc n) (suc k) d is =
    place_in-end r.end rs n k d (omega (arith, is))
