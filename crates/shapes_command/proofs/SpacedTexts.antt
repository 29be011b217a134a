-- Texts with spaces between them, one more at a time.
use Rattle.shapes_command.proofs.Common.{◌≡◌, ◌+◌, ◌<◌, ◌∙◌, ℕ, List, [], ◌∷◌, ◌++◌, length, map, take, get_or, ap, refl, sym, append_assoc, append-nil, arith, map-append, length-take-le, take_more}
use Rattle.shapes_command.proofs.Common.{spaced}

-- a text after others comes after a space
spaced_push : (t : List ℕ) (ts : List (List ℕ)) (text : List ℕ)
    → spaced ((t ∷ ts) ++ text ∷ []) ≡ spaced (t ∷ ts) ++ (32 ∷ text)
spaced_push t [] text = refl
spaced_push t (u ∷ us) text = ap (λ l. t ++ (32 ∷ l)) (spaced_push u us text)
    ∙ sym (append_assoc t (32 ∷ spaced (u ∷ us)) (32 ∷ text))

module _ {A : Type 0} (text : A → List ℕ) where
  -- the same of the texts of items
  items_push : (ys : List A) (x : A) → 0 < length ys
      → spaced (map text (ys ++ x ∷ [])) ≡ spaced (map text ys) ++ (32 ∷ text x)
  items_push [] x some = absurd (omega arith)
  items_push (y ∷ ys) x some = ap spaced (map-append text (y ∷ ys) (x ∷ []))
      ∙ spaced_push (text y) (map text ys) (text x)

  -- the first item is written with no space
  pub first_written : (xs : List A) (i : ℕ) (d : A) (start line new space : List ℕ) → i < length xs
      → i ≡ 0 → space ≡ [] → line ≡ start ++ spaced (map text (take i xs))
      → new ≡ line ++ (space ++ text (get_or xs i d))
      → new ≡ start ++ spaced (map text (take (i + 1) xs))
  first_written xs i d start line new space below first none before wrote =
      let x = get_or xs i d in
      let empty : take i xs ≡ [] = ap (λ n. take n xs) first in
      let more : take (i + 1) xs ≡ x ∷ [] = take_more xs i d below
      ∙ ap (λ l. l ++ (x ∷ [])) empty in
      let bare : line ≡ start = before ∙ ap (λ l. start ++ spaced (map text l)) empty
      ∙ append-nil start in
      wrote ∙ ap (λ s. line ++ (s ++ text x)) none ∙ ap (λ l. l ++ text x) bare
      ∙ ap (λ l. start ++ spaced (map text l)) (sym more)

  -- any other after a space
  pub next_written : (xs : List A) (i : ℕ) (d : A) (start line new space : List ℕ) → i < length xs
      → ¬ (i ≡ 0) → space ≡ 32 ∷ [] → line ≡ start ++ spaced (map text (take i xs))
      → new ≡ line ++ (space ++ text (get_or xs i d))
      → new ≡ start ++ spaced (map text (take (i + 1) xs))
  next_written xs i d start line new space below later one before wrote =
      let x = get_or xs i d in
      let seen = length-take-le i xs (omega arith) in
      let more : spaced (map text (take (i + 1) xs)) ≡ spaced
      (map text (take i xs)) ++ (32 ∷ text x) =
      ap (λ l. spaced (map text l)) (take_more xs i d below)
      ∙ items_push (take i xs) x (omega (arith, seen)) in
      wrote ∙ ap (λ s. line ++ (s ++ text x)) one ∙ ap (λ l. l ++ (32 ∷ text x)) before
      ∙ append_assoc start (spaced (map text (take i xs))) (32 ∷ text x)
      ∙ ap (λ l. start ++ l) (sym more)
