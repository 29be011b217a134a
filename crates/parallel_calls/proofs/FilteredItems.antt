-- What a partition without keys says of a filter.
use Rattle.std.proofs.Common.{◌≡◌, List, [], ◌∷◌, Option, Some, None, Bool, true, false, refl, sym, ◌∙◌, ap}
use Rattle.std.specs.Prelude.{⊤}
use Rattle.std.specs.List.{cons_option, filter, filter_map}
use Rattle.std.proofs.lemmas.Bool.{cond-true, cond-false}
use Rattle.parallel_bridge.specs.Lists.{MapOf}
use Rattle.parallel_bridge.specs.Parts.{PartitionOf, values_of}
use Rattle.parallel_bridge.proofs.OverLists.{map_weaker}
use Rattle.parallel_calls.specs.Filters.{FilterOf, KeptBy, ValuesOf, somes}
use Rattle.parallel_calls.specs.Functions.{GoesBy}

module _ {X Y : Type 0} (gives : X → Option Y → Type 0) (allowed : X → (⊤ × Option Y) → Type 0)
    (says : (x : X) (p : ⊤ × Option Y) → allowed x p → gives x p.1) where
  values_among : (xs : List X) (ps : List (⊤ × Option Y)) → MapOf allowed xs ps
      → ValuesOf gives xs (values_of ps)
  values_among [] [] h = ([], tt, refl)
  values_among [] (p ∷ ps) h = absurd h
  values_among (x ∷ xs) [] h = absurd h
  values_among (x ∷ xs) ((k, Some y) ∷ ps) h =
      let (answers, each, is) = values_among xs ps h.1 in
      (Some y ∷ answers, (says x (k, Some y) h.0, each), ap (λ l. y ∷ l) is)
  values_among (x ∷ xs) ((k, None) ∷ ps) h =
      let (answers, each, is) = values_among xs ps h.1 in
      (None ∷ answers, (says x (k, None) h.0, each), is)

  pub values_of_parts : (xs : List X) (ys : List Y) (ks : List ⊤) → PartitionOf allowed xs ys ks
      → ValuesOf gives xs ys
  values_of_parts xs ys ks (ps, each, values, keys) =
      let (answers, all, is) = values_among xs ps each in (answers, all, values ∙ is)

-- of answers that say more
pub values_weaker : {X Y : Type 0} (allowed gives : X → Option Y → Type 0)
    → ((x : X) (o : Option Y) → allowed x o → gives x o) → (xs : List X) (ys : List Y)
    → ValuesOf allowed xs ys → ValuesOf gives xs ys
values_weaker allowed gives says xs ys (answers, each, is) =
    (answers, map_weaker allowed gives says xs answers each, is)

-- answers that go by a function
module _ {X Y : Type 0} (gives : X → Option Y → Type 0) (f : X → Option Y)
    (goes : GoesBy gives f) where
  somes_mapped : (xs : List X) (answers : List (Option Y)) → MapOf gives xs answers
      → somes answers ≡ filter_map f xs
  somes_mapped [] [] h = refl
  somes_mapped [] (o ∷ answers) h = absurd h
  somes_mapped (x ∷ xs) [] h = absurd h
  somes_mapped (x ∷ xs) (Some y ∷ answers) h =
      ap (λ l. y ∷ l) (somes_mapped xs answers h.1)
      ∙ ap (λ o. cons_option o (filter_map f xs)) (goes x (Some y) h.0)
  somes_mapped (x ∷ xs) (None ∷ answers) h =
      somes_mapped xs answers h.1 ∙ ap (λ o. cons_option o (filter_map f xs)) (goes x None h.0)

  pub plain_values : (xs : List X) (ys : List Y) → ValuesOf gives xs ys → ys ≡ filter_map f xs
  plain_values xs ys (answers, each, is) = is ∙ somes_mapped xs answers each

-- verdicts that go by a function
module _ {X : Type 0} (verdict : X → Bool → Type 0) (passes : X → Bool)
    (goes : GoesBy verdict passes) where
  kept_filtered : (xs : List X) (answers : List (Option X)) → MapOf (KeptBy verdict) xs answers
      → somes answers ≡ filter passes xs
  kept_filtered [] [] h = refl
  kept_filtered [] (o ∷ answers) h = absurd h
  kept_filtered (x ∷ xs) [] h = absurd h
  kept_filtered (x ∷ xs) (Some y ∷ answers) h =
      ap (λ z. z ∷ somes answers) h.0.0 ∙ ap (λ l. x ∷ l) (kept_filtered xs answers h.1)
      ∙ sym (cond-true (passes x) (x ∷ filter passes xs) (filter passes xs)
      (sym (goes x true h.0.1)))
  kept_filtered (x ∷ xs) (None ∷ answers) h =
      kept_filtered xs answers h.1
      ∙ sym (cond-false (passes x) (x ∷ filter passes xs) (filter passes xs)
      (sym (goes x false h.0)))

  pub plain_filter : (xs ys : List X) → FilterOf verdict xs ys → ys ≡ filter passes xs
  plain_filter xs ys (answers, each, is) = is ∙ kept_filtered xs answers each
