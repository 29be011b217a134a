-- What is changed where it lies: the items of a list, and its parts where it is cut.
use Rattle.std.specs.Prelude.{◌≡◌, ℕ, zero, suc, ◌+◌, ◌-◌, ◌<◌, ◌≤◌, List, [], ◌∷◌, length, drop, slice_index_or, take}
use Rattle.std.specs.Borrow.{MutBor}
use denote.Param.Members.{Shared}
use Rattle.std.specs.Fork.{AcceptsAt, ChangesAt}
use Rattle.std.specs.declared.ops.Range.{Range}

module _ {F X : Type 0}
    (g : Shared F (ℕ × (MutBor X × Unit {0})) (Unit {0} × (MutBor X × Unit {0}))) (f : F) where
  -- f may be called with each item and its index, where the first one has that index
  abbrev pub AcceptsFrom : ℕ → List X → Type 0
  AcceptsFrom from xs =
      (k : ℕ) (d : X) → k < length xs → AcceptsAt g f (from + k) (slice_index_or xs k d)

  -- each item is what a call of f left there
  abbrev pub ChangesFrom : ℕ → List X → List X → Type 0
  ChangesFrom from xs ys = (k : ℕ) (d : X) → k < length xs
      → ChangesAt g f (from + k) (slice_index_or xs k d) (slice_index_or ys k d)

-- the later of two places is not before the earlier one
abbrev pub Rises : (ℕ → ℕ) → Type 0
Rises place = (m n : ℕ) → m ≤ n → place m ≤ place n

-- Part n of a list that begins with part `begin`. A part goes from its place to the next one's.
abbrev pub part_of_cut : {X : Type 0} → (ℕ → ℕ) → ℕ → ℕ → List X → List X
part_of_cut place begin n xs = take (place (n + 1) - place n) (drop (place n - place begin) xs)

-- where range n begins, and the one before it ends; from their number on, where the last one ends
abbrev pub place_in : ℕ → List (Range ℕ) → ℕ → ℕ
place_in from [] n = from
place_in from (r ∷ rs) zero = from
place_in from (r ∷ rs) (suc n) = place_in r.end rs n

module _ {F X : Type 0}
    (g : Shared F (ℕ × (MutBor (List X) × Unit {0})) (Unit {0} × (MutBor (List X) × Unit {0})))
    (f : F) where
  -- the list is the parts from `begin` below `end`, and f may be called with each and its place
  abbrev pub AcceptsCut : (ℕ → ℕ) → ℕ → ℕ → List X → Type 0
  AcceptsCut place begin end xs = Rises place × (begin ≤ end)
      × (place begin + length xs ≡ place end)
      × ((n : ℕ) → begin ≤ n → n < end → AcceptsAt g f (place n) (part_of_cut place begin n xs))

  -- each of these parts is what a call of f left there
  abbrev pub ChangesCut : (ℕ → ℕ) → ℕ → ℕ → List X → List X → Type 0
  ChangesCut place begin end xs ys = (length ys ≡ length xs)
      × ((n : ℕ) → begin ≤ n → n < end
      → ChangesAt g f (place n) (part_of_cut place begin n xs) (part_of_cut place begin n ys))
