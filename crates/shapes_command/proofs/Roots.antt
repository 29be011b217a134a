-- A root by a relation is one by any that it implies, and the root over the numbers of words.
use Rattle.shapes_command.proofs.Common.{◌≡◌, ℕ, List, [], ◌∷◌, map, Bor, Option, String, Global, subst, MapOf}
use Rattle.shapes_command.proofs.Common.{MerkleRoot, NextLevel, RootOf, of_level, of_none, of_one, AreItems, IsItem, number_of}
use Rattle.parallel_bridge.proofs.Laws.{map_is_function}
use Rattle.parallel_bridge.proofs.OverViews.{map_shown}
use Rattle.std.proofs.lemmas.List.Elements.{All-contains}

module _ {T : Type 0} (told known : T → T → T → Type 0)
    (so : (a b c : T) → told a b c → known a b c) where
  next_weaker : (xs ns : List T) → NextLevel told xs ns → NextLevel known xs ns
  next_weaker [] ns h = h
  next_weaker (x ∷ []) ns h = h
  next_weaker (x ∷ (y ∷ xs)) [] h = absurd h
  next_weaker (x ∷ (y ∷ xs)) (n ∷ ns) h = (so x y n h.0, next_weaker xs ns h.1)

  pub root_weaker : (xs : List T) (root : Option T) → MerkleRoot told xs root
      → MerkleRoot known xs root
  root_weaker [] root of_none = of_none
  root_weaker (x ∷ []) root (of_one) = of_one
  root_weaker (x ∷ (y ∷ xs)) root (of_level {nodes = ns} next above) =
      of_level (next_weaker (x ∷ (y ∷ xs)) ns next) (root_weaker ns root above)

-- the root of the leaves that are the numbers of the words
pub root_of_words : (told : ℕ → ℕ → ℕ → Type 0) (known : ℕ → ℕ → ℕ → Type 0)
    (leaf : Bor (String Global) → ℕ → Type 0) (words : List (String Global)) (root : Option ℕ)
    → ((a b c : ℕ) → told a b c → known a b c)
    → ((word : Bor (String Global)) (value : ℕ) → leaf word value → IsItem word.now
    → value ≡ number_of word.now) → AreItems words
    → ((xs : List (Bor (String Global))) × (map (λ (x : Bor (String Global)). x.now) xs ≡ words)
    × RootOf leaf told xs root) → MerkleRoot known (map number_of words) root
root_of_words told known leaf words root so number items (xs, came, (leaves, maps, above)) =
    let writes = λ (word : String Global) (value : ℕ). IsItem word → value ≡ number_of word in
    let view = λ (x : Bor (String Global)). x.now in
    let shown = subst (λ l. MapOf writes l leaves) came
    (map_shown view leaf writes number xs leaves maps) in
    let each = map_is_function writes words leaves shown number_of
    (λ word value within told_of. told_of (All-contains IsItem words word items.1 within)) in
    subst (λ l. MerkleRoot known l root) each (root_weaker told known so leaves root above)
