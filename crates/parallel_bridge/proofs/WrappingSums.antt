-- Folds that add up and wrap around at m.
use Rattle.parallel_bridge.proofs.Common.{◌≡◌, ℕ, ◌+◌, ◌%◌, ◌<◌, List, [], ◌∷◌, Result, nat_lt, sym, ◌∙◌, ap, fold, sum_by, arith, IfOk, ltb-true, lt-ltb, mod_below, sum_by-cons, IfOk-weaker}
use Rattle.parallel_bridge.proofs.Common.{mod-add-mod, add-mod-mod, mod-eq_of_lt, Bracketing, FoldLaws}
use Rattle.parallel_bridge.proofs.Laws.{plain_from_bracketing}
use Rattle.parallel_bridge.proofs.OverLists.{fact_of_list}

-- a sum and what the next item adds
abbrev pub add_next : {A : Type 0} → ℕ → (A → ℕ) → ℕ → A → ℕ
add_next m f a x = (a + f x) % m

-- two sums together
abbrev pub add_sums : ℕ → ℕ → ℕ → ℕ
add_sums m a b = (a + b) % m

-- closures that add so keep the laws of folds on the numbers below m
pub sums_keep_laws : {A : Type 0} (m : ℕ) (f : A → ℕ) (identity : ℕ → Type 0)
    (step : ℕ → A → ℕ → Type 0) (reduce : ℕ → ℕ → ℕ → Type 0) (xs : List A) → 0 < m
    → ((e : ℕ) → identity e → e ≡ 0) → ((a : ℕ) (x : A) (b : ℕ) → step a x b → b ≡ (a + f x) % m)
    → ((a b r : ℕ) → reduce a b r → r ≡ (a + b) % m)
    → FoldLaws identity step reduce 0 (add_next m f) (add_sums m) (λ a. nat_lt a m) xs
sums_keep_laws m f identity step reduce xs some starts steps reduces = record {
  starts = starts;
  steps = λ a x b good within stepped. steps a x b stepped;
  reduces = λ a b r good good' reduced. reduces a b r reduced;
  good_unit = lt-ltb 0 m some;
  good_step = λ a x good within. lt-ltb ((a + f x) % m) m (mod_below (a + f x) m some);
  good_reduce = λ a b good good'. lt-ltb ((a + b) % m) m (mod_below (a + b) m some);
  neutral = λ a good. let same : a + 0 ≡ a = omega arith in ap (λ n. n % m) same
      ∙ mod-eq_of_lt (ltb-true a m good);
  passes =
      λ a b x good good' within. let same : a + b + f x ≡ a + (b + f x) = omega arith in mod-add-mod
      (a + b) m (f x) ∙ ap (λ n. n % m) same ∙ sym (add-mod-mod a (b + f x) m);
}

-- such a fold wraps around once
fold_from : {A : Type 0} (m : ℕ) (f : A → ℕ) (a : ℕ) (xs : List A)
    → fold (add_next m f) (a % m) xs ≡ (a + sum_by f xs) % m
fold_from m f a [] = ap (λ n. n % m) (omega arith)
fold_from m f a (x ∷ xs) =
    ap (λ n. fold (add_next m f) n xs) (mod-add-mod a m (f x)) ∙ fold_from m f (a + f x) xs
    ∙ ap (λ n. n % m) (omega (arith, sum_by-cons f x xs))

pub fold_of_sums : {A : Type 0} (m : ℕ) (f : A → ℕ) (xs : List A) → 0 < m
    → fold (add_next m f) 0 xs ≡ sum_by f xs % m
fold_of_sums m f xs some = ap (λ n. fold (add_next m f) n xs) (sym (mod-eq_of_lt some))
    ∙ fold_from m f 0 xs ∙ ap (λ n. n % m) (omega arith)

-- a fold that adds so
pub sum_of_brackets : {A : Type 0} (m : ℕ) (f : A → ℕ) (identity : ℕ → Type 0)
    (step : ℕ → A → ℕ → Type 0) (reduce : ℕ → ℕ → ℕ → Type 0) (xs : List A) (r : ℕ)
    → Bracketing identity step reduce xs r → 0 < m → ((e : ℕ) → identity e → e ≡ 0)
    → ((a : ℕ) (x : A) (b : ℕ) → step a x b → b ≡ (a + f x) % m)
    → ((a b r : ℕ) → reduce a b r → r ≡ (a + b) % m) → r ≡ sum_by f xs % m
sum_of_brackets m f identity step reduce xs r brackets some starts steps reduces =
    plain_from_bracketing identity step reduce xs r brackets 0 (add_next m f) (add_sums m)
    (λ a. nat_lt a m) (sums_keep_laws m f identity step reduce xs some starts steps reduces)
    ∙ fold_of_sums m f xs some

-- the same over a list
pub sum_of_list : {A E : Type 0} (all : List A) (m : ℕ) (f : A → ℕ) (identity : ℕ → Type 0)
    (step : ℕ → A → ℕ → Type 0) (reduce : ℕ → ℕ → ℕ → Type 0) (result : Result ℕ E)
    → IfOk result (λ r. (xs : List A) × (xs ≡ all) × Bracketing identity step reduce xs r) → 0 < m
    → ((e : ℕ) → identity e → e ≡ 0) → ((a : ℕ) (x : A) (b : ℕ) → step a x b → b ≡ (a + f x) % m)
    → ((a b r : ℕ) → reduce a b r → r ≡ (a + b) % m) → IfOk result (λ r. r ≡ sum_by f all % m)
sum_of_list all m f identity step reduce result gave some starts steps reduces =
    IfOk-weaker result _ (λ r. r ≡ sum_by f all % m)
    (λ r h. sum_of_brackets m f identity step reduce all r h some starts steps reduces)
    (fact_of_list all (Bracketing identity step reduce) result gave)
