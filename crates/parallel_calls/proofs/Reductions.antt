-- A fold over an operation that has no identity.
use Rattle.std.proofs.Common.{◌≡◌, List, [], ◌∷◌, ◌++◌, append-nil, Option, Some, None, refl, sym, ◌∙◌, ap, subst, fold}
use Rattle.std.proofs.lemmas.List.Sums.{fold-append}
use Rattle.parallel_bridge.specs.Lists.{Bracketing}
use Rattle.parallel_calls.specs.Reductions.{IsAssociative, ReducedTwo, ReductionOf, Reduces, of_one, of_two, reduced_by}
use Rattle.parallel_bridge.proofs.Folded.{fold_has}

module _ {X : Type 0} (op : X → X → X → Type 0) where
  joined_two : (xs ys : List X) (p q r : Option X) → ReductionOf op xs p → ReductionOf op ys q
      → ReducedTwo op p q r → ReductionOf op (xs ++ ys) r
  joined_two xs ys None q r left right is = subst (ReductionOf op (xs ++ ys)) (sym is)
      (subst (λ l. ReductionOf op (l ++ ys) q) (sym left) right)
  joined_two xs ys (Some a) None r left right is = subst (ReductionOf op (xs ++ ys)) (sym is)
      (subst (λ l. Reduces op (xs ++ l) a) (sym right)
      (subst (λ l. Reduces op l a) (sym (append-nil xs)) left))
  joined_two xs ys (Some a) (Some b) r left right (v, one, is) =
      subst (ReductionOf op (xs ++ ys)) (sym is) (of_two refl left right one)

  pub reduction_of_fold : (identity : Option X → Type 0)
      (step : Option X → X → Option X → Type 0)
      (reduce : Option X → Option X → Option X → Type 0)
      → ((e : Option X) → identity e → e ≡ None)
      → ((a : Option X) (x : X) (b : Option X) → step a x b → ReducedTwo op a (Some x) b)
      → ((a b r : Option X) → reduce a b r → ReducedTwo op a b r)
      → (xs : List X) (r : Option X) → Bracketing identity step reduce xs r → ReductionOf op xs r
  reduction_of_fold identity step reduce starts steps reduces xs r brackets =
      fold_has identity step reduce (ReductionOf op)
      (λ e i. subst (ReductionOf op []) (sym (starts e i)) refl)
      (λ ys a x b h one. joined_two ys (x ∷ []) a (Some x) b h (of_one refl) (steps a x b one))
      (λ ys zs p q s h h' one. joined_two ys zs p q s h h' (reduces p q s one)) brackets

  module _ (g : X → X → X) (laws : IsAssociative op g) where
    -- what stands on the left may go into the fold
    taken_in : (a b : X) (xs : List X) → g a (fold g b xs) ≡ fold g (g a b) xs
    taken_in a b [] = refl
    taken_in a b (x ∷ xs) =
        taken_in a (g b x) xs ∙ ap (λ v. fold g v xs) (sym (laws.assoc a b x))

    both_reduced : (xs ys : List X) (p q : X) → reduced_by g xs ≡ Some p
        → reduced_by g ys ≡ Some q → reduced_by g (xs ++ ys) ≡ Some (g p q)
    both_reduced [] ys p q left right = absurd cc
    both_reduced (x ∷ xs) [] p q left right = absurd cc
    both_reduced (x ∷ xs) (y ∷ ys) p q left right =
        let front : fold g x xs ≡ p = cc in
        let back : fold g y ys ≡ q = cc in
        ap (λ v. Some v) (fold-append g x xs (y ∷ ys)
        ∙ sym (taken_in (fold g x xs) y ys) ∙ ap (λ v. g v (fold g y ys)) front ∙ ap (g p) back)

    pub reduced_plain : {xs : List X} {r : X} → Reduces op xs r → reduced_by g xs ≡ Some r
    reduced_plain (of_one one) = ap (reduced_by g) one
    reduced_plain (of_two {xs = xs} {ys = ys} {p = p} {q = q} {r = r} split left right one) =
        ap (reduced_by g) split
        ∙ both_reduced xs ys p q (reduced_plain left) (reduced_plain right)
        ∙ ap (λ v. Some v) (sym (laws.goes p q r one))

    pub plain_reduction : (xs : List X) (found : Option X) → ReductionOf op xs found
        → found ≡ reduced_by g xs
    plain_reduction xs None h = sym (ap (reduced_by g) h)
    plain_reduction xs (Some r) h = sym (reduced_plain h)
