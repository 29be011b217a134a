-- Folds that add up and that multiply.
use Rattle.std.proofs.Common.{◌≡◌, ℕ, ◌+◌, ◌*◌, ◌%◌, ◌^◌, List, [], ◌∷◌, ◌++◌, Option, Some, None, MatchOption, sum_by}
use Rattle.std.proofs.Common.{refl, sym, ◌∙◌, ap, subst, arith}
use Rattle.std.proofs.lemmas.List.Sums.{sum_by-cons, sum_by-append}
use Rattle.std.proofs.lemmas.Nat.{mul-mod, mul-mod_first}
use Rattle.std.proofs.Math.Nat.{mul_assoc}
use Rattle.parallel_bridge.specs.Lists.{Bracketing}
use Rattle.parallel_calls.specs.Sums.{CheckedSumOf, ChecksTwo, product_by}
use Rattle.parallel_bridge.proofs.Folded.{fold_has}

module _ {N : Type 0} (value : N → ℕ) (identity : N → Type 0) (step : N → N → N → Type 0)
    (reduce : N → N → N → Type 0) where
  pub sum_of_fold : ((e : N) → identity e → value e ≡ 0)
      → ((a x b : N) → step a x b → value b ≡ (value a + value x) % 2 ^ 64)
      → ((a b r : N) → reduce a b r → value r ≡ (value a + value b) % 2 ^ 64)
      → (xs : List N) (r : N) → Bracketing identity step reduce xs r
      → value r ≡ sum_by value xs % 2 ^ 64
  sum_of_fold starts steps reduces xs r brackets =
      fold_has identity step reduce (λ ys s. value s ≡ sum_by value ys % 2 ^ 64)
      (λ e i. let zero_first = starts e i in omega (arith, zero_first))
      (λ ys a x b h one.
      let more = sum_by-append value ys (x ∷ []) in
      let last = sum_by-cons value x [] in
      let next = steps a x b one in
      omega (arith, h, next, more, last))
      (λ ys zs p q s h h' one.
      let both = sum_by-append value ys zs in
      let joined = reduces p q s one in
      omega (arith, h, h', both, joined)) brackets

  -- a product of two lists
  product_append : (xs ys : List N)
      → product_by value (xs ++ ys) ≡ product_by value xs * product_by value ys
  unfolding product_by
  product_append [] ys = omega arith
  product_append (x ∷ xs) ys =
      ap (λ n. value x * n) (product_append xs ys)
      ∙ sym (mul_assoc (value x) (product_by value xs) (product_by value ys))

  product_none : product_by value [] ≡ 1
  unfolding product_by
  product_none = refl

  product_one : (x : N) → product_by value (x ∷ []) ≡ value x
  unfolding product_by
  product_one x = omega arith

  pub product_of_fold : ((e : N) → identity e → value e ≡ 1)
      → ((a x b : N) → step a x b → value b ≡ (value a * value x) % 2 ^ 64)
      → ((a b r : N) → reduce a b r → value r ≡ (value a * value b) % 2 ^ 64)
      → (xs : List N) (r : N) → Bracketing identity step reduce xs r
      → value r ≡ product_by value xs % 2 ^ 64
  product_of_fold starts steps reduces xs r brackets =
      fold_has identity step reduce (λ ys s. value s ≡ product_by value ys % 2 ^ 64)
      (λ e i. let one_first = starts e i in omega (arith, one_first, product_none))
      (λ ys a x b h one.
      let next = steps a x b one in
      next ∙ ap (λ n. (n * value x) % 2 ^ 64) h
      ∙ mul-mod_first (product_by value ys) (value x) (2 ^ 64)
      ∙ ap (λ n. (product_by value ys * n) % 2 ^ 64) (sym (product_one x))
      ∙ ap (λ n. n % 2 ^ 64) (sym (product_append ys (x ∷ []))))
      (λ ys zs p q s h h' one.
      reduces p q s one ∙ ap (λ n. (n * value q) % 2 ^ 64) h
      ∙ ap (λ n. (product_by value ys % 2 ^ 64 * n) % 2 ^ 64) h'
      ∙ sym (mul-mod (product_by value ys) (product_by value zs) (2 ^ 64))
      ∙ ap (λ n. n % 2 ^ 64) (sym (product_append ys zs))) brackets

-- what a step or a reduction of two checked sums comes to
checked_two : {N : Type 0} (value : N → ℕ) (xs ys : List N) (p q r : Option N)
    → CheckedSumOf value xs p → CheckedSumOf value ys q → ChecksTwo value p q r
    → CheckedSumOf value (xs ++ ys) r
checked_two value xs ys None q r left right is =
    let both = sum_by-append value xs ys in
    subst (CheckedSumOf value (xs ++ ys)) (sym is) (omega (arith, left, both))
checked_two value xs ys (Some a) None r left right is =
    let both = sum_by-append value xs ys in
    subst (CheckedSumOf value (xs ++ ys)) (sym is) (omega (arith, right, both))
checked_two value xs ys (Some a) (Some b) None left right is =
    let both = sum_by-append value xs ys in
    omega (arith, left, right, is, both)
checked_two value xs ys (Some a) (Some b) (Some s) left right is =
    let both = sum_by-append value xs ys in
    omega (arith, left, right, is, both)

module _ {N : Type 0} (value : N → ℕ) (identity : Option N → Type 0)
    (step : Option N → N → Option N → Type 0) (reduce : Option N → Option N → Option N → Type 0)
  where
    -- what a number alone comes to
    checked_one : (x : N) → CheckedSumOf value (x ∷ []) (Some x)
    checked_one x = let last = sum_by-cons value x [] in omega (arith, last)

    checked_none : (e : Option N) → MatchOption e ⊥ (λ z. value z ≡ 0) → CheckedSumOf value [] e
    checked_none None h = absurd h
    checked_none (Some z) h = omega (arith, h)

    pub checked_of_fold : ((e : Option N) → identity e → MatchOption e ⊥ (λ z. value z ≡ 0))
        → ((a : Option N) (x : N) (b : Option N) → step a x b → ChecksTwo value a (Some x) b)
        → ((a b r : Option N) → reduce a b r → ChecksTwo value a b r)
        → (xs : List N) (r : Option N) → Bracketing identity step reduce xs r
        → CheckedSumOf value xs r
    checked_of_fold starts steps reduces xs r brackets =
        fold_has identity step reduce (CheckedSumOf value) (λ e i. checked_none e (starts e i))
        (λ ys a x b h one. checked_two value ys (x ∷ []) a (Some x) b h (checked_one x)
        (steps a x b one))
        (λ ys zs p q s h h' one. checked_two value ys zs p q s h h' (reduces p q s one)) brackets
