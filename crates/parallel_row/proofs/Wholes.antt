-- What holds of each part of a list that is cut, and so of the whole list.
use Rattle.parallel_row.proofs.Common.{◌≡◌, ℕ, zero, suc, ◌+◌, ◌-◌, ◌<◌, ◌≤◌, ◌∙◌, List, [], ◌++◌, length, take, drop, sym, ap, subst, arith, length-drop, Rises, part_of_cut}
use Rattle.std.proofs.Common.{take-append-drop}
use Rattle.std.proofs.lemmas.List.{drop-drop, nil_from_length}
use Rattle.std.proofs.lemmas.List.Elements.{filter-append}
use Rattle.std.proofs.lemmas.List.Sorted.{IsPermutation-append, IsPermutation-refl}
use Rattle.std.specs.Borrow.{Bor}
use Rattle.std.specs.Fn.{Mut}
use Rattle.std.specs.List.Sorted.{IsPermutation, IsStableByClosure, ties}
use Rattle.std.specs.declared.cmp.Ordering.{Ordering}

module _ {X : Type 0} (R : List X → List X → Type 0) (none : R [] [])
    (joined : (xs ys us vs : List X) → R xs ys → R us vs → R (xs ++ us) (ys ++ vs))
    (place : ℕ → ℕ) (rises : Rises place) where
  -- a list that is its parts from `begin` on, that many, and ends with the last one
  from_parts : (count begin end : ℕ) → begin + count ≡ end → (xs ys : List X)
      → place begin + length xs ≡ place end → length ys ≡ length xs
      → ((n : ℕ) → begin ≤ n → n < end
      → R (part_of_cut place begin n xs) (part_of_cut place begin n ys))
      → R xs ys
  from_parts zero begin end to xs ys is same each =
      let at = ap place {x = begin} {y = end} (omega (arith, to)) in
      subst (R xs) (sym (nil_from_length ys (omega (arith, is, same, at))))
      (subst (λ zs. R zs []) (sym (nil_from_length xs (omega (arith, is, at)))) none)
  from_parts (suc count) begin end to xs ys is same each =
      let m = place (begin + 1) - place begin in
      let up = rises begin (begin + 1) (omega arith) in
      let high = rises (begin + 1) end (omega (arith, to)) in
      let first : (zs : List X) → part_of_cut place begin begin zs ≡ take m zs =
      λ zs. ap (λ k. take m (drop k zs)) {x = place begin - place begin} {y = 0} (omega arith) in
      let later : (n : ℕ) → begin + 1 ≤ n → (zs : List X)
      → part_of_cut place begin n zs ≡ part_of_cut place (begin + 1) n (drop m zs) =
      λ n low zs. ap (take (place (n + 1) - place n))
      (ap (λ k. drop k zs) {x = place n - place begin} {y = m + (place n - place (begin + 1))}
      (omega (arith, up, rises (begin + 1) n low))
      ∙ sym (drop-drop (place n - place (begin + 1)) m zs)) in
      let rest = from_parts count (begin + 1) end (omega (arith, to)) (drop m xs) (drop m ys)
      (omega (arith, is, up, high, length-drop m xs))
      (omega (arith, same, length-drop m xs, length-drop m ys))
      (λ n low below. subst (R (part_of_cut place (begin + 1) n (drop m xs))) (later n low ys)
      (subst (λ zs. R zs (part_of_cut place begin n ys)) (later n low xs)
      (each n (omega (arith, low)) below))) in
      let front = subst (R (take m xs)) (first ys)
      (subst (λ zs. R zs (part_of_cut place begin begin ys)) (first xs)
      (each begin (omega arith) (omega (arith, to)))) in
      subst (R xs) (take-append-drop m ys)
      (subst (λ zs. R zs (take m ys ++ drop m ys)) (take-append-drop m xs)
      (joined (take m xs) (take m ys) (drop m xs) (drop m ys) front rest))

module _ {F X : Type 0} (g : Mut F (Bor X × (Bor X × Unit {0})) Ordering) (f : F) where
  pub stable_then : (xs ys zs : List X) → IsStableByClosure g f xs ys
      → IsStableByClosure g f ys zs → IsStableByClosure g f xs zs
  stable_then xs ys zs a b = λ lt order says x. b lt order says x ∙ a lt order says x

  stable_joined : (xs ys us vs : List X) → IsStableByClosure g f xs ys
      → IsStableByClosure g f us vs → IsStableByClosure g f (xs ++ us) (ys ++ vs)
  stable_joined xs ys us vs a b = λ lt order says x. filter-append (ties lt x) ys vs
      ∙ (λ i. a lt order says x i ++ b lt order says x i) ∙ sym (filter-append (ties lt x) xs us)

  -- where each part is a permutation that keeps ties in their order, the whole list is
  pub rearranged_from_parts : (place : ℕ → ℕ) → Rises place → (count : ℕ) (xs ys : List X)
      → place 0 + length xs ≡ place count → length ys ≡ length xs
      → ((n : ℕ) → 0 ≤ n → n < count
      → IsPermutation (part_of_cut place 0 n xs) (part_of_cut place 0 n ys)
      × IsStableByClosure g f (part_of_cut place 0 n xs) (part_of_cut place 0 n ys))
      → IsPermutation xs ys × IsStableByClosure g f xs ys
  rearranged_from_parts place rises count xs ys is same each = (
    from_parts IsPermutation (IsPermutation-refl []) IsPermutation-append place rises count 0 count
        (omega arith) xs ys is same (λ n low below. (each n low below).0),
    from_parts (IsStableByClosure g f) (λ lt order says x i. []) stable_joined place rises count 0
        count (omega arith) xs ys is same (λ n low below. (each n low below).1),
  )
