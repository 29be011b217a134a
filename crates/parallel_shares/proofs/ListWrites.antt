-- What a write to a list changes, and what it leaves, at any default.
use Rattle.parallel_shares.proofs.Common.{◌≡◌, ℕ, zero, suc, ◌+◌, ◌<◌, ◌≢◌, List, [], ◌∷◌, ◌++◌, length, get_or, set, refl, ap, arith, inl, inr, cases_lt, get_or_past, Range, in_range, in_ranges}

-- what holds of each element, and of the one that is written, holds of each element afterwards
pub each_set : {A : Type 0} (P : A → Type 0) (xs : List A) (i : ℕ) (x d : A)
    → ((k : ℕ) → P (get_or xs k d)) → P x → (k : ℕ) → P (get_or (set xs i x) k d)
each_set P [] i x d h p k = h k
each_set P (y ∷ ys) zero x d h p zero = p
each_set P (y ∷ ys) zero x d h p (suc k) = h (suc k)
each_set P (y ∷ ys) (suc i) x d h p zero = h zero
each_set P (y ∷ ys) (suc i) x d h p (suc k) = each_set P ys i x d (λ j. h (suc j)) p k

-- a write that a function does not see changes that function at no element
pub set_same : {A B : Type 0} (f : A → B) (xs : List A) (i : ℕ) (x d : A) → f x ≡ f (get_or xs i d)
    → (k : ℕ) → f (get_or (set xs i x) k d) ≡ f (get_or xs k d)
set_same f [] i x d h k = refl
set_same f (y ∷ ys) zero x d h zero = h
set_same f (y ∷ ys) zero x d h (suc k) = refl
set_same f (y ∷ ys) (suc i) x d h zero = refl
set_same f (y ∷ ys) (suc i) x d h (suc k) = set_same f ys i x d h k

-- what is not the default stands in the list
pub stands : {A B : Type 0} (f : A → B) (xs : List A) (i : ℕ) (d : A) → f (get_or xs i d) ≢ f d
    → i < length xs
stands f xs i d h =
    elim (cases_lt i (length xs)) [ inl l ↦ l | inr m ↦ absurd (h (ap f (get_or_past xs i d m))) ]

-- one more range counts beside the others
pub in_ranges_push : (c : ℕ) (rs : List (Range ℕ)) (r : Range ℕ)
    → in_ranges c (rs ++ r ∷ []) ≡ in_ranges c rs + in_range c r
in_ranges_push c [] r = omega arith
in_ranges_push c (q ∷ qs) r = omega (arith, in_ranges_push c qs r)
