-- What holds of a fold however its list is cut.
use Rattle.parallel_bridge.proofs.Common.{List, [], ◌∷◌, ◌++◌, append-nil, append_assoc, refl, sym, subst, Brackets, Bracketing, Chain, FoldSegment, MapOf, of_parts, of_segment}
use Rattle.parallel_bridge.proofs.Shapes.{MapOf-append}

-- what holds where it holds of no item, stays at a step and is put together by a reduction
module _ {X R : Type 0} (identity : R → Type 0) (step : R → X → R → Type 0)
    (reduce : R → R → R → Type 0) (P : List X → R → Type 0)
    (begins : (e : R) → identity e → P [] e)
    (goes_on : (xs : List X) (a : R) (x : X) (b : R) → P xs a → step a x b → P (xs ++ (x ∷ [])) b)
    (joins : (xs ys : List X) (p q r : R) → P xs p → P ys q → reduce p q r → P (xs ++ ys) r) where
  chain_has : (seen : List X) (a : R) (ys : List X) (r : R) → P seen a → Chain step a ys r
      → P (seen ++ ys) r
  chain_has seen a [] r h same =
      subst (λ l. P l r) (sym (append-nil seen)) (subst (P seen) same h)
  chain_has seen a (y ∷ ys) r h (m, one, rest) = subst (λ l. P l r) (append_assoc seen (y ∷ []) ys)
      (chain_has (seen ++ (y ∷ [])) m ys r (goes_on seen a y m h one) rest)

  pub fold_has : {xs : List X} {r : R} → Brackets (FoldSegment identity step) reduce xs r → P xs r
  fold_has {xs} {r} (of_segment (e, i, chain)) = chain_has [] e xs r (begins e i) chain
  fold_has {r = r} (of_parts {xs = xs} {ys = ys} {p = p} {q = q} split left right reduced) =
      subst (λ l. P l r) (sym split) (joins xs ys p q r (fold_has left) (fold_has right) reduced)

-- a fold whose step asks something of its item is a fold of the verdicts
module _ {X V R : Type 0} (verdict : X → V → Type 0) (by : R → V → R → Type 0) where
  module _ (identity : R → Type 0) (step : R → X → R → Type 0) (reduce : R → R → R → Type 0) where
    module _ (asks : (a : R) (x : X) (b : R) → step a x b → (v : V) × verdict x v × by a v b) where
      chain_of_verdicts : (a : R) (xs : List X) (r : R) → Chain step a xs r
          → (vs : List V) × MapOf verdict xs vs × Chain by a vs r
      chain_of_verdicts a [] r h = ([], tt, h)
      chain_of_verdicts a (x ∷ xs) r (m, one, rest) =
          let (v, said, stepped) = asks a x m one in
          let (vs, each, chain) = chain_of_verdicts m xs r rest in
          (v ∷ vs, (said, each), (m, stepped, chain))

      pub fold_of_verdicts : {xs : List X} {r : R} → Brackets (FoldSegment identity step) reduce xs r
          → (vs : List V) × MapOf verdict xs vs × Bracketing identity by reduce vs r
      fold_of_verdicts {xs} {r} (of_segment (a, begun, chain)) =
          let (vs, each, goes) = chain_of_verdicts a xs r chain in
          (vs, each, of_segment (a, begun, goes))
      fold_of_verdicts (of_parts {xs = xs} {ys = ys} split left right reduced) =
          let (us, front, one) = fold_of_verdicts left in
          let (vs, back, other) = fold_of_verdicts right in (
            us ++ vs,
            subst (λ l. MapOf verdict l (us ++ vs)) (sym split)
                (MapOf-append verdict xs ys us vs front back),
            of_parts refl one other reduced,
          )
