-- Counts that are added up over a list, when the list changes.
use Rattle.parallel_shares.proofs.Common.{◌≡◌, ℕ, zero, suc, ◌≢◌, ◌+◌, ◌<◌, ◌≤◌, List, [], ◌∷◌, ◌++◌, length, get_or, set, take, drop, refl, sym, ap, inl, inr, arith, range_with_len, cases_eq, eq-eqb}
use Rattle.parallel_shares.proofs.Common.{ne_eqb, nat_tests, some, some-injective, some-ne-none, get_elem?, Range, inside, in_ranges, same_number, total, times}

module _ {A : Type 0} (f : A → ℕ) where
  pub total_append : (xs ys : List A) → total f (xs ++ ys) ≡ total f xs + total f ys
  total_append [] ys = omega arith
  total_append (x ∷ xs) ys = omega (arith, total_append xs ys)

  -- a write changes the total by what it puts in and takes out
  pub total_set : (xs : List A) (i : ℕ) (x y : A) → get_elem? xs i ≡ some x
      → total f (set xs i y) + f x ≡ total f xs + f y
  total_set [] i x y e = absurd (some-ne-none x (sym e))
  total_set (a ∷ xs) zero x y e =
      let h : f a ≡ f x = ap f (some-injective a x e) in
      omega (arith, h)
  total_set (a ∷ xs) (suc i) x y e = omega (arith, total_set xs i x y e)

  pub total_at : (xs : List A) (i : ℕ) (x : A) → get_elem? xs i ≡ some x → f x ≤ total f xs
  total_at [] i x e = absurd (some-ne-none x (sym e))
  total_at (a ∷ xs) zero x e = let h : f a ≡ f x = ap f (some-injective a x e) in omega (arith, h)
  total_at (a ∷ xs) (suc i) x e = omega (arith, total_at xs i x e)

  -- two elements count no more than all
  pub total_two : (xs : List A) (i j : ℕ) (x y : A) → get_elem? xs i ≡ some x
      → get_elem? xs j ≡ some y → ¬ (j ≡ i) → f x + f y ≤ total f xs
  total_two [] i j x y e h n = absurd (some-ne-none x (sym e))
  total_two (a ∷ xs) zero zero x y e h n = absurd (n refl)
  total_two (a ∷ xs) zero (suc j) x y e h n =
      let k : f a ≡ f x = ap f (some-injective a x e) in
      omega (arith, k, total_at xs j y h)
  total_two (a ∷ xs) (suc i) zero x y e h n =
      let k : f a ≡ f y = ap f (some-injective a y h) in
      omega (arith, k, total_at xs i x e)
  total_two (a ∷ xs) (suc i) (suc j) x y e h n =
      omega (arith, total_two xs i j x y e h (λ p. n (ap suc p)))

  -- where no element counts, the total is 0
  pub total_none : (xs : List A) → ((j : ℕ) (y : A) → get_elem? xs j ≡ some y → f y ≡ 0)
      → total f xs ≡ 0
  total_none [] none_of = refl
  total_none (a ∷ xs) none_of =
      omega (arith, none_of 0 a refl, total_none xs (λ j y h. none_of (suc j) y h))

  -- where only one element counts, the total is its count
  pub total_alone : (xs : List A) (i : ℕ) (x : A) → get_elem? xs i ≡ some x
      → ((j : ℕ) (y : A) → get_elem? xs j ≡ some y → ¬ (j ≡ i) → f y ≡ 0) → total f xs ≡ f x
  total_alone [] i x e others = absurd (some-ne-none x (sym e))
  total_alone (a ∷ xs) zero x e others =
      let h : f a ≡ f x = ap f (some-injective a x e) in
      omega (arith, h, total_none xs (λ j y k. others (suc j) y k (λ p. omega arith)))
  total_alone (a ∷ xs) (suc i) x e others =
      omega (
        arith,
        others 0 a refl (λ p. omega arith),
        total_alone xs i x e (λ j y k n. others (suc j) y k (λ p. n (omega arith))),
      )

-- a write to a list of numbers
pub total_put : (f : ℕ → ℕ) (xs : List ℕ) (i y : ℕ) → i < length xs
    → total f (set xs i y) + f (get_or xs i 0) ≡ total f xs + f y
total_put f [] i y h = absurd (omega arith)
total_put f (a ∷ xs) zero y h = omega arith
total_put f (a ∷ xs) (suc i) y h = omega (arith, total_put f xs i y (omega arith))

-- what stands at a place, written there again
pub set_get : (xs : List ℕ) (i : ℕ) → set xs i (get_or xs i 0) ≡ xs
set_get [] i = refl
set_get (x ∷ xs) zero = refl
set_get (x ∷ xs) (suc i) = ap (λ ys. x ∷ ys) (set_get xs i)

-- ---- numbers and ranges of a list

-- a number counts where it is the one
pub is_same : (i j : ℕ) → 0 < same_number i j → i ≡ j
is_same i j h =
    elim (cases_eq i j) [
      | inl e ↦ e
      | inr n ↦ absurd
          (let z : same_number i j ≡ 0 = rw (ne_eqb i j n) refl in omega (arith, h, z))
    ]

pub same_once : (i : ℕ) → same_number i i ≡ 1
same_once i = rw (eq-eqb i i refl) refl

-- a number that was put after a list is in it once more
pub times_push : (k : ℕ) (xs : List ℕ) → times k (xs ++ k ∷ []) ≡ times k xs + 1
times_push k xs = omega (arith, total_append (same_number k) xs (k ∷ []), same_once k)

-- any other number is in it as often as before
pub times_push_other : (k n : ℕ) (xs : List ℕ) → k ≢ n → times k (xs ++ n ∷ []) ≡ times k xs
times_push_other k n xs apart =
    let none_of : same_number k n ≡ 0 = rw (ne_eqb k n apart) refl in
    omega (arith, total_append (same_number k) xs (n ∷ []), none_of)

-- a list in which no number counts is empty
pub no_numbers : (xs : List ℕ) → ((k : ℕ) → times k xs ≡ 0) → xs ≡ []
no_numbers [] h = refl
no_numbers (x ∷ xs) h = absurd (omega (arith, h x, same_once x))

-- the first number of a list and those after it
pub times_dealt : (k : ℕ) (xs : List ℕ) → times k (drop 1 xs) + times k (take 1 xs) ≡ times k xs
times_dealt k [] = refl
times_dealt k (x ∷ xs) = omega arith

pub one_more : (k a n : ℕ) → same_number k a + inside k (suc a) (suc a + n) ≡ inside k a (a + suc n)
unfolding inside
one_more k a n = grind (arith, nat_tests)

pub times_range : (k a n : ℕ) → times k (range_with_len a n) ≡ inside k a (a + n)
unfolding inside
times_range k a zero = grind (arith, nat_tests)
times_range k a (suc n) =
    let e : a + 1 ≡ suc a = omega arith in
    rw e (omega (arith, times_range k (suc a) n, one_more k a n))

pub in_ranges_append : (c : ℕ) (rs qs : List (Range ℕ))
    → in_ranges c (rs ++ qs) ≡ in_ranges c rs + in_ranges c qs
in_ranges_append c [] qs = omega arith
in_ranges_append c (r ∷ rs) qs = omega (arith, in_ranges_append c rs qs)

-- two lists that are empty together are each empty
pub both_empty : {A : Type 0} (xs ys : List A) → xs ++ ys ≡ [] → (xs ≡ []) × (ys ≡ [])
both_empty [] ys e = (refl, e)
both_empty (x ∷ xs) ys e =
    absurd (let l : suc (length (xs ++ ys)) ≡ 0 = ap length e in omega (arith, l))

-- ---- totals read by places

module _ {A : Type 0} (f : A → ℕ) where
  pub total_zero : (xs : List A) → ((i : ℕ) (d : A) → i < length xs → f (get_or xs i d) ≡ 0)
      → total f xs ≡ 0
  total_zero [] each = refl
  total_zero (x ∷ xs) each =
      omega (arith, each 0 x (omega arith), total_zero xs (λ i d h. each (suc i) d (omega arith)))

  -- an element that counts makes the total count
  pub total_some : (xs : List A) (i : ℕ) → i < length xs → ((d : A) → 0 < f (get_or xs i d))
      → 0 < total f xs
  total_some [] i h counts = absurd (omega (arith, h))
  total_some (x ∷ xs) zero h counts = omega (arith, counts x)
  total_some (x ∷ xs) (suc i) h counts = omega (arith, total_some xs i (omega arith) counts)

  -- two counts that are added up together
  pub total_both : (g : A → ℕ) (xs : List A) → total f xs + total g xs ≡ total (λ x. f x + g x) xs
  total_both g [] = refl
  total_both g (x ∷ xs) = omega (arith, total_both g xs)

pub total_of_none : (f : ℕ → ℕ) (xs : List ℕ) → ((i : ℕ) → i < length xs → f (get_or xs i 0) ≡ 0)
    → total f xs ≡ 0
total_of_none f [] each = refl
total_of_none f (x ∷ xs) each =
    omega (arith, each 0 (omega arith), total_of_none f xs (λ i h. each (suc i) (omega arith)))
