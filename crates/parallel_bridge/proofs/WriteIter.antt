-- For the loop that writes results: a result for each item that came, and what is left.
use Rattle.parallel_bridge.proofs.Common.{◌≡◌, ℕ, ◌+◌, ◌≤◌, List, [], ◌∷◌, ◌++◌, length, refl, sym, ap, subst, ◌∙◌, arith, length-append}
use Rattle.parallel_bridge.proofs.Common.{Contains, Contains-append_right}

module _ {X : Type 0} where
  -- what stands after the front item stands in the list
  pub others_of : (all rest : List X) (x y : X) → all ≡ x ∷ rest → Contains rest y → Contains all y
  others_of all rest x y at h =
      subst (λ l. Contains l y) (sym at) (Contains-append_right (x ∷ []) rest y h)

-- one item more, and a result more, where the results lie
pub one_answered : {A T Y : Type 0} (taken : List A → Type 0)
    (so_far : List A → T → List Y → Type 0) (xs : List A) (x : A) (ys zs : List Y) (y : Y)
    (state : T) → taken (xs ++ x ∷ []) → zs ≡ ys ++ y ∷ []
    → so_far (xs ++ x ∷ []) state (ys ++ y ∷ []) → length ys ≡ length xs
    → (all : List A) × taken all × so_far all state zs × (length zs ≡ length all)
one_answered taken so_far xs x ys zs y state here placed answered count =
    let more = length-append ys (y ∷ []) in let longer = length-append xs (x ∷ []) in (
      xs ++ x ∷ [],
      here,
      subst (so_far (xs ++ x ∷ []) state) (sym placed) answered,
      ap length placed ∙ omega (arith, more, longer, count),
    )

-- nothing is left where as many came as there are
pub none_left : {A : Type 0} (xs ys : List A) (n : ℕ) → length (xs ++ ys) ≡ n → n ≤ length xs
    → ys ≡ []
none_left xs [] n all le = refl
none_left xs (y ∷ ys) n all le =
    let long = length-append xs (y ∷ ys) in
    let more : length (xs ++ y ∷ ys) ≡ length xs + (length ys + 1) = omega arith in
    absurd (omega arith)
