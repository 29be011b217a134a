-- Numbers that ascend, each as often as in a range, are that range.
use Rattle.shapes_command.proofs.Common.{◌≡◌, ℕ, zero, suc, ◌+◌, ◌<◌, ◌≤◌, inl, inr, List, [], ◌∷◌, length, get_or, refl, sym, ap, ◌∙◌, arith, range_with_len, sum_by, IsPermutation, IsNonDecreasing}
use Rattle.shapes_command.proofs.Common.{cases_lt, ne_eqb, sum_by-cons, sum_by-IsPermutation, inside, same_number, total, times, inside_within, inside_nothing, side, within, before, after, total_zero}
use Rattle.shapes_command.proofs.Common.{no_numbers, one_more, same_once}

total_is_sum : {A : Type 0} (f : A → ℕ) (xs : List A) → total f xs ≡ sum_by f xs
total_is_sum f [] = refl
total_is_sum f (x ∷ xs) = omega (arith, total_is_sum f xs, sum_by-cons f x xs)

-- another order of the same numbers
pub times_permuted : (c : ℕ) (xs ys : List ℕ) → IsPermutation xs ys → times c ys ≡ times c xs
times_permuted c xs ys p =
    total_is_sum (same_number c) ys ∙ sum_by-IsPermutation (same_number c) xs ys p
    ∙ sym (total_is_sum (same_number c) xs)

-- a number below all others is not among them
none_below : (a : ℕ) (xs : List ℕ) → ((j d : ℕ) → j < length xs → a < get_or xs j d)
    → times a xs ≡ 0
none_below a xs all =
    total_zero (same_number a) xs (λ j d h. rw
    (ne_eqb a (get_or xs j d) (λ e. let l = all j d h in omega arith)) refl)

-- a number that counts in a range is not below it
not_below : (c a b : ℕ) → 0 < inside c a b → a ≤ c
not_below c a b h =
    elim (side c a b) [
      | within s e i ↦ s
      | before l i ↦ absurd (omega arith)
      | after m i ↦ absurd
          (omega arith)
    ]

-- the first of the numbers is where the range begins
first_is : (a n y : ℕ) (ys : List ℕ) → IsNonDecreasing (y ∷ ys)
    → ((c : ℕ) → times c (y ∷ ys) ≡ inside c a (a + suc n)) → y ≡ a
first_is a n y ys order counts =
    let least : a ≤ y = not_below y a (a + suc n) (omega (arith, counts y, same_once y)) in
    elim (cases_lt a y) [
      | inl more ↦
          let none_of : times a (y ∷ ys) ≡ 0 =
          none_below a (y ∷ ys) (λ j d h. omega (arith, order 0 j d (omega arith) h)) in
          absurd (omega (
            arith,
            none_of,
            counts a,
            inside_within a a (a + suc n) (omega arith) (omega arith),
          ))
      | inr no_more ↦ omega arith
    ]

pub ascending : (a n : ℕ) (xs : List ℕ) → IsNonDecreasing xs
    → ((c : ℕ) → times c xs ≡ inside c a (a + n)) → xs ≡ range_with_len a n
ascending a zero xs order counts =
    no_numbers xs (λ c. counts c ∙ inside_nothing c a (a + 0) (omega arith))
ascending a (suc n) [] order counts =
    absurd (omega (arith, counts a, inside_within a a (a + suc n) (omega arith) (omega arith)))
ascending a (suc n) (y ∷ ys) order counts =
    let first : y ≡ a = first_is a n y ys order counts in
    let next : a + 1 ≡ suc a = omega arith in
    let rest : ys ≡ range_with_len (suc a) n =
    ascending (suc a) n ys (λ i j d h l. order (suc i) (suc j) d (omega arith) (omega arith))
    (λ c. omega (arith, counts c, one_more c a n, ap (same_number c) first)) in
    ap (λ z. z ∷ ys) first ∙ ap (λ zs. a ∷ zs) (rest ∙ ap (λ k. range_with_len k n) (sym next))
