-- Two lists pair by pair, and a list with its indices: a cut of them, and what may come of a part.
use Rattle.parallel_bridge.proofs.Common.{◌≡◌, ℕ, ◌+◌, min, List, [], ◌∷◌, ◌++◌, Option, length, map, refl, sym, ap, subst, ◌∙◌, arith, Drains, HoldsAlong, Yields, All, AllByRecursion, enumerate_from}
use Rattle.parallel_bridge.proofs.Common.{◌≤◌, IsFront, range_with_len, zip, All-from_recursion, recursion_from_All, PairsOf, zipped_steps}
use Rattle.parallel_bridge.proofs.Fronts.{fronts_zipped, whole_front}
use Rattle.std.proofs.lemmas.Slice.Zip.{length-zip}
use Rattle.parallel_bridge.specs.declared.zipped.ZippedIter.{ZippedIter}

module _ {A B : Type 0} where
  -- two lists after two others that are as long
  pub zip_append : (xs more : List A) (ys others : List B) → length xs ≡ length ys
      → zip (xs ++ more) (ys ++ others) ≡ zip xs ys ++ zip more others
  zip_append [] more [] others same = refl
  zip_append (x ∷ xs) more (y ∷ ys) others same =
      ap (λ l. (x, y) ∷ l) (zip_append xs more ys others (omega (arith, same)))
  zip_append u more v others same = absurd (omega (arith, same))

  -- as many pairs as each list has items
  pub pairs_long : (n m : ℕ) (P : List A → Type 0) (Q : List B → Type 0) (zs : List (A × B))
      → PairsOf P Q zs → ((xs : List A) → P xs → length xs ≡ n)
      → ((ys : List B) → Q ys → length ys ≡ m) → length zs ≡ min n m
  pairs_long n m P Q zs (xs, ys, one, two, same) first second =
      let seen = ap length same in let long = length-zip xs ys in let left = first xs one in
      let right = second ys two in
      omega (arith, seen, long, left, right)

  -- the pairs of two fronts, and after them those of the rests
  module _ (n : ℕ) (P P' P'' : List A → Type 0) (Q Q' Q'' : List B → Type 0)
      (left : (xs more : List A) → P' xs → P'' more → P (xs ++ more))
      (right : (ys others : List B) → Q' ys → Q'' others → Q (ys ++ others))
      (first : (xs : List A) → P' xs → length xs ≡ n)
      (second : (ys : List B) → Q' ys → length ys ≡ n) where
    pub pairs_joined : (front back : List (A × B)) → PairsOf P' Q' front → PairsOf P'' Q'' back
        → PairsOf P Q (front ++ back)
    pairs_joined front back (xs, ys, one, two, same) (more, others, three, four, rest) = (
      xs ++ more,
      ys ++ others,
      left xs more one three,
      right ys others two four,
      ap (λ l. l ++ back) same ∙ ap (λ l. zip xs ys ++ l) rest
          ∙ sym (zip_append xs more ys others (first xs one ∙ sym (second ys two))),
    )

  module _ (n : ℕ) (P P' : List A → Type 0) (Q Q' : List B → Type 0)
      (left : (xs : List A) → P' xs → (all : List A) × P all × IsFront n xs all)
      (right : (ys : List B) → Q' ys → (all : List B) × Q all × IsFront n ys all) where
    pub zipped_front : (zs : List (A × B)) → PairsOf P' Q' zs
        → (all : List (A × B)) × PairsOf P Q all × IsFront n zs all
    zipped_front zs (xs, ys, one, two, same) =
        let (all, whole, first) = left xs one in let (others, full, second) = right ys two in (
          zip all others,
          (all, others, whole, full, refl),
          subst (λ l. IsFront n l (zip all others))
              (sym same) (fronts_zipped n xs all ys others first second),
        )

    -- no pair is lost, where there are no more than n
    pub zipped_whole : (zs : List (A × B))
        → ((all : List (A × B)) → PairsOf P Q all → length all ≤ n) → PairsOf P' Q' zs
        → PairsOf P Q zs
    zipped_whole zs most pairs =
        let (all, whole, front) = zipped_front zs pairs in
        subst (PairsOf P Q) (sym (whole_front n zs all (most all whole) front)) whole

module _ {S T A B : Type 0} (steps : S → Option A → S → Type 0)
    (others : T → Option B → T → Type 0) where
  -- a run over both sides goes through each of them
  pub both_drained : (zs : List (A × B)) (s : ZippedIter S T)
      → Drains (zipped_steps steps others) s zs
      → PairsOf (Drains steps s.left) (Drains others s.right) zs
  both_drained [] s (u, (t, same, (xs, ys, one, two, none))) = (
    xs,
    ys,
    subst (λ k. Drains steps k.left xs) (sym same) one,
    subst (λ k. Drains others k.right ys) (sym same) two,
    sym none,
  )
  both_drained (z ∷ zs) s (u, (t, (j, step, run), ends)) =
      let (xs, ys, one, two, same) = both_drained zs j (u, (t, run, ends)) in (
        z.0 ∷ xs,
        z.1 ∷ ys,
        (one.0, (one.1.0, (j.left, step.0, one.1.1), one.1.2)),
        (two.0, (two.1.0, (j.right, step.1, two.1.1), two.1.2)),
        ap (λ l. z ∷ l) same,
      )

  left_run : (zs : List (A × B)) (s t : ZippedIter S T) → Yields (zipped_steps steps others) s zs t
      → Yields steps s.left (map (λ z. z.0) zs) t.left
  left_run [] s t same = ap (λ k. k.left) same
  left_run (z ∷ zs) s t (j, step, run) = (j.left, step.0, left_run zs j t run)

  right_run : (zs : List (A × B)) (s t : ZippedIter S T) → Yields (zipped_steps steps others) s zs t
      → Yields others s.right (map (λ z. z.1) zs) t.right
  right_run [] s t same = ap (λ k. k.right) same
  right_run (z ∷ zs) s t (j, step, run) = (j.right, step.1, right_run zs j t run)

  module _ (P : A → Type 0) (Q : B → Type 0) where
    of_both : (zs : List (A × B)) → AllByRecursion P (map (λ z. z.0) zs)
        → AllByRecursion Q (map (λ z. z.1) zs) → AllByRecursion (λ z. P z.0 × Q z.1) zs
    of_both [] one two = tt
    of_both (z ∷ zs) one two = ((one.0, two.0), of_both zs one.1 two.1)

    -- what is true of each item of either side is true of both in a pair
    pub both_along : (s : ZippedIter S T) → HoldsAlong steps s.left (All P)
        → HoldsAlong others s.right (All Q)
        → HoldsAlong (zipped_steps steps others) s (All (λ z. P z.0 × Q z.1))
    both_along s one two zs t run = All-from_recursion (λ z. P z.0 × Q z.1) zs (of_both zs
        (recursion_from_All P (map (λ z. z.0) zs)
        (one (map (λ z. z.0) zs) t.left (left_run zs s t run)))
        (recursion_from_All Q (map (λ z. z.1) zs)
        (two (map (λ z. z.1) zs) t.right (right_run zs s t run))))

module _ {A : Type 0} where
  -- each item with its index is the pair of both
  pub zip_numbers : (n : ℕ) (xs : List A)
      → zip (range_with_len n (length xs)) xs ≡ enumerate_from n xs
  zip_numbers n [] = refl
  zip_numbers n (x ∷ xs) = ap (λ l. (n, x) ∷ l) (zip_numbers (n + 1) xs)

  -- indices and items that were gone through side by side
  pub numbered_both : (start n : ℕ) (xs : List ℕ) (ys : List A) (zs : List (ℕ × A))
      → xs ≡ range_with_len start n → length ys ≡ n → zs ≡ zip xs ys → zs ≡ enumerate_from start ys
  numbered_both start n xs ys zs indices long same = same ∙ ap (λ l. zip l ys) indices
      ∙ ap (λ k. zip (range_with_len start k) ys) (sym long) ∙ zip_numbers start ys
