-- Lists that are filled with a state at hand, whatever the segments.
use Rattle.std.proofs.Common.{◌≡◌, ℕ, List, [], ◌∷◌, ◌++◌, Option, Some, None, refl, sym, ◌∙◌, ap, subst, ◌⊎◌, inl, inr}
use Rattle.parallel_bridge.specs.States.{StatesFrom, Stateful, no_segment, more_segments}
use Rattle.std.proofs.Common.{Result, IfOk, Vec, Global}
use Rattle.parallel_bridge.proofs.OverLists.{fact_of_list}
use Rattle.std.proofs.lemmas.Result.{IfOk-weaker}
use Rattle.uses.specs.Repeats.{filled}

-- an entry for a number, where the state is the last number
abbrev pub Entry : Option ℕ → ℕ → Option ℕ → Option ℕ → Type 0
Entry last number entry next = (next ≡ Some number)
    × ((entry ≡ Some number) ⊎ ((entry ≡ None) × (last ≡ Some number)))

module _ (init : Option ℕ → Type 0) (step : Option ℕ → ℕ → Option ℕ → Option ℕ → Type 0)
    (fresh : (s : Option ℕ) → init s → s ≡ None)
    (enters : (s : Option ℕ) (x : ℕ) (y t : Option ℕ) → step s x y t → Entry s x y t) where
  -- entries that follow a number are filled from it, and those after them by themselves
  follow : (last : ℕ) (xs : List ℕ) (ys more : List (Option ℕ)) (rest : List ℕ)
      → StatesFrom step (Some last) xs ys → ((n : ℕ) → filled n more ≡ rest)
      → filled last (ys ++ more) ≡ xs ++ rest
  follow last [] ys more rest none after = ap (λ l. filled last (l ++ more)) none ∙ after last
  follow last (x ∷ xs) [] more rest h after = absurd h
  follow last (x ∷ xs) (y ∷ ys) more rest (t, stepped, onward) after =
      let entry = enters (Some last) x y t stepped in
      let next : StatesFrom step (Some x) xs ys =
      subst (λ s. StatesFrom step s xs ys) entry.0 onward in
      let behind = follow x xs ys more rest next after in
      elim entry.1 [
        | inl given ↦ ap (λ e. filled last (e ∷ (ys ++ more))) given ∙ ap (λ l. x ∷ l) behind
        | inr gap ↦
            let same : last ≡ x = cc in
            ap (λ e. filled last (e ∷ (ys ++ more))) gap.0
            ∙ ap (λ n. n ∷ filled n (ys ++ more)) same ∙ ap (λ l. x ∷ l) behind
      ]

  -- a segment's first entry is a number
  begun : (n x : ℕ) (xs : List ℕ) (ys more : List (Option ℕ)) (rest : List ℕ) (s : Option ℕ)
      → init s → StatesFrom step s (x ∷ xs) ys → ((n : ℕ) → filled n more ≡ rest)
      → filled n (ys ++ more) ≡ (x ∷ xs) ++ rest
  begun n x xs [] more rest s first h after = absurd h
  begun n x xs (y ∷ ys) more rest s first (t, stepped, onward) after =
      let entry = enters s x y t stepped in
      let next : StatesFrom step (Some x) xs ys =
      subst (λ s'. StatesFrom step s' xs ys) entry.0 onward in
      let behind = follow x xs ys more rest next after in
      elim entry.1 [
        | inl given ↦ ap (λ e. filled n (e ∷ (ys ++ more))) given ∙ ap (λ l. x ∷ l) behind
        | inr gap ↦
            let none : s ≡ None = fresh s first in absurd cc
      ]

  -- however the list is cut, the entries fill to it
  fills : {xs : List ℕ} {ys : List (Option ℕ)} → Stateful init step xs ys → (n : ℕ)
      → filled n ys ≡ xs
  fills no_segment n = refl
  fills (more_segments x xs rest ys more split joined (s, first, states) onward) n =
      ap (filled n) joined ∙ begun n x xs ys more rest s first states (λ m. fills onward m)
      ∙ sym split

-- the same with the results first, which tell the relations
pub all_filled : (init : Option ℕ → Type 0) (step : Option ℕ → ℕ → Option ℕ → Option ℕ → Type 0)
    (xs : List ℕ) (ys : List (Option ℕ)) → Stateful init step xs ys
    → ((s : Option ℕ) → init s → s ≡ None)
    → ((s : Option ℕ) (x : ℕ) (y t : Option ℕ) → step s x y t → Entry s x y t) → (n : ℕ)
    → filled n ys ≡ xs
all_filled init step xs ys h fresh enters n = fills init step fresh enters h n

-- the same of a call's results, over a list
pub filled_list : {E : Type 0} (all : List ℕ) (init : Option ℕ → Type 0)
    (step : Option ℕ → ℕ → Option ℕ → Option ℕ → Type 0) (result : Result (Vec (Option ℕ) Global) E)
    → IfOk result (λ ys. (xs : List ℕ) × (xs ≡ all) × Stateful init step xs ys.items)
    → ((s : Option ℕ) → init s → s ≡ None)
    → ((s : Option ℕ) (x : ℕ) (y t : Option ℕ) → step s x y t → Entry s x y t)
    → IfOk result (λ ys. (n : ℕ) → filled n ys.items ≡ all)
filled_list all init step result gave fresh enters =
    fact_of_list all (λ xs ys. (n : ℕ) → filled n ys.items ≡ xs) result
    (IfOk-weaker result _ _ (λ ys h. (h.0, h.1, all_filled init step h.0 ys.items h.2 fresh enters))
    gave)
