-- Beginnings of one history: what begins a longer one, and the longer of two.
use Rattle.parallel_pool.proofs.Common.{◌≡◌, ◌⊎◌, List, [], ◌∷◌, ◌++◌, refl, sym, ap, ◌∙◌, ⊎_elim, inl, inr, append-nil, append_assoc, cons-ne-nil, head-eq_of_cons-eq, tail-eq_of_cons-eq, Begins}

-- what begins a history begins what the history goes on to
pub begins_on : {A : Type 0} (log seen more : List A) → Begins log seen → Begins (log ++ more) seen
begins_on log seen more b = (b.0 ++ more, ap (λ l. l ++ more) b.1 ∙ append_assoc seen b.0 more)

-- of two beginnings of one history the one begins the other
comparable : {A : Type 0} (log a b : List A) → Begins log a → Begins log b → Begins b a ⊎ Begins a b
comparable log [] b f g = inl (b, refl)
comparable log (x ∷ xs) [] f g = inr (x ∷ xs, refl)
comparable [] (x ∷ xs) (y ∷ ys) f g = absurd (cons-ne-nil _ _ (sym f.1))
comparable (z ∷ zs) (x ∷ xs) (y ∷ ys) f g =
    let same : x ≡ y = sym (head-eq_of_cons-eq f.1) ∙ head-eq_of_cons-eq g.1 in ⊎_elim
    (λ (t : Begins ys xs). inl (t.0, (λ i. sym same i ∷ t.1 i)))
    (λ (t : Begins xs ys). inr (t.0, (λ i. same i ∷ t.1 i)))
    (comparable zs xs ys (f.0, tail-eq_of_cons-eq f.1) (g.0, tail-eq_of_cons-eq g.1))

-- the longer of two beginnings of one history begins it too
pub longest : {A : Type 0} (log a b : List A) → Begins log a → Begins log b
    → (c : List A) × Begins log c × Begins c a × Begins c b × ((c ≡ a) ⊎ (c ≡ b))
longest log a b f g = ⊎_elim
    (λ (t : Begins b a). (b, g, t, ([], sym (append-nil b)), inr refl))
    (λ (t : Begins a b). (a, f, ([], sym (append-nil a)), t, inl refl))
    (comparable log a b f g)
