-- What stands at a place of a list.
use Rattle.parallel_pool.proofs.Common.{◌≡◌, ℕ, ◌<◌, ◌⊎◌, List, [], ◌∷◌, ◌++◌, length, get_or, refl, sym, ap, ⊎_elim, inl, inr, zero, suc, arith, some, some-injective, some-ne-none, get_elem?}

-- what stands at a place stands within the list
pub within : {A : Type 0} (l : List A) (i : ℕ) (a : A) → get_elem? l i ≡ some a → i < length l
within [] i a e = absurd (some-ne-none a (sym e))
within (x ∷ xs) zero a e = omega arith
within (x ∷ xs) (suc i) a e = let h = within xs i a e in omega arith

-- and is what is read there
pub at_get : {A : Type 0} (l : List A) (i : ℕ) (a d : A) → get_elem? l i ≡ some a → get_or l i d ≡ a
at_get [] i a d e = absurd (some-ne-none a (sym e))
at_get (x ∷ xs) zero a d e = some-injective x a e
at_get (x ∷ xs) (suc i) a d e = at_get xs i a d e

-- what stands in a list that has one more, stands in the list or at its end
pub at_end : {A : Type 0} (l : List A) (a b : A) (j : ℕ) → get_elem? (l ++ a ∷ []) j ≡ some b
    → (get_elem? l j ≡ some b) ⊎ ((j ≡ length l) × (a ≡ b))
at_end [] a b zero e = inr (refl, some-injective a b e)
at_end [] a b (suc j) e = absurd (some-ne-none b (sym e))
at_end (x ∷ xs) a b zero e = inl e
at_end (x ∷ xs) a b (suc j) e = ⊎_elim (λ t. inl t) (λ t. inr (ap suc t.0, t.1)) (at_end xs a b j e)
