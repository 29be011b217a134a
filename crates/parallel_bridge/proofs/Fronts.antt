-- All of a list, or its first items.
use Rattle.parallel_bridge.proofs.Common.{◌≡◌, ℕ, zero, suc, ◌+◌, ◌-◌, ◌≤◌, List, [], ◌∷◌, ◌++◌, length, map, take, zip, refl, sym, ap, ◌∙◌, arith, inl, inr, Bor, IsFront}
use Rattle.parallel_bridge.proofs.Common.{range_with_len, common_steps, length-map, map-append, take_all}
use Rattle.parallel_bridge.proofs.IteratorItems.{some_borrows}
use Rattle.parallel_bridge.proofs.Ranges.{indices_long, indices_split}

module _ {X : Type 0} where
  -- a list that has no more items is all of it
  pub whole_front : (n : ℕ) (xs all : List X) → length all ≤ n → IsFront n xs all → xs ≡ all
  whole_front n xs all short (inl same) = same
  whole_front n xs all short (inr front) = front ∙ take_all n all short

  pub is_front : (n : ℕ) (xs more : List X) → length xs ≡ n → IsFront n xs (xs ++ more)
  is_front n xs more long = inr (grind (arith, common_steps))

  twice : (n : ℕ) (xs : List X) → take n (take n xs) ≡ take n xs
  twice n xs = grind (arith, common_steps)

-- what lends the first values of a list, and after it what lends the others
pub borrows_front : {X : Type 0} (n : ℕ) (xs : List (Bor X)) (front back all : List X)
    → length front ≡ n → all ≡ front ++ back → map (λ (x : Bor X). x.now) xs ≡ front
    → (whole : List (Bor X)) × (map (λ (x : Bor X). x.now) whole ≡ all) × IsFront n xs whole
borrows_front {X = X} n xs front back all long cut lent =
    let now : Bor X → X = λ x. x.now in let (others, same) = some_borrows back in (
      xs ++ others,
      map-append now xs others ∙ ap (λ l. l ++ map now others) lent
          ∙ ap (λ l. front ++ l) same ∙ sym cut,
      is_front n xs others (sym (length-map xs now) ∙ ap length lent ∙ long),
    )

-- the first indices of a range
pub indices_front : (a b n : ℕ) (xs : List ℕ) → n ≤ b - a → xs ≡ range_with_len a (a + n - a)
    → (all : List ℕ) × (all ≡ range_with_len a (b - a)) × IsFront n xs all
indices_front a b n xs within front =
    let more = range_with_len (a + n) (b - (a + n)) in (
      xs ++ more,
      indices_split a b n xs more within front refl,
      is_front n xs more (ap length front ∙ indices_long a (a + n - a) ∙ omega arith),
    )

module _ {A B : Type 0} where
  first_pairs : (n : ℕ) (xs : List A) (ys : List B) → zip (take n xs) ys ≡ take n (zip xs ys)
  first_pairs (suc n) (x ∷ xs) (y ∷ ys) = ap (λ l. (x, y) ∷ l) (first_pairs n xs ys)
  first_pairs n u v = refl

  second_pairs : (n : ℕ) (xs : List A) (ys : List B) → zip xs (take n ys) ≡ take n (zip xs ys)
  second_pairs (suc n) (x ∷ xs) (y ∷ ys) = ap (λ l. (x, y) ∷ l) (second_pairs n xs ys)
  second_pairs (suc n) u v = refl
  second_pairs zero [] ys = refl
  second_pairs zero (x ∷ xs) ys = refl

  -- the pairs of two fronts are the first pairs, or all
  pub fronts_zipped : (n : ℕ) (xs all : List A) (ys others : List B) → IsFront n xs all
      → IsFront n ys others → IsFront n (zip xs ys) (zip all others)
  fronts_zipped n xs all ys others (inl same) (inl full) =
      inl (ap (zip xs) full ∙ ap (λ l. zip l others) same)
  fronts_zipped n xs all ys others (inl same) (inr front) =
      inr (ap (zip xs) front ∙ ap (λ l. zip l (take n others)) same ∙ second_pairs n all others)
  fronts_zipped n xs all ys others (inr front) (inl full) =
      inr (ap (zip xs) full ∙ ap (λ l. zip l others) front ∙ first_pairs n all others)
  fronts_zipped n xs all ys others (inr front) (inr short) = inr (ap (zip xs) short
      ∙ ap (λ l. zip l (take n others)) front ∙ first_pairs n all (take n others)
      ∙ ap (take n) (second_pairs n all others) ∙ twice n (zip all others))
