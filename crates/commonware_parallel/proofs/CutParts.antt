-- The parts of a list that ranges cut, which follow one another without a gap.
use Rattle.commonware_parallel.proofs.Common.{◌≡◌, ℕ, zero, suc, ◌+◌, ◌-◌, ◌<◌, ◌≤◌, ◌∙◌, List, [], ◌∷◌, length, get_or, take, drop, refl, sym, ap, arith, Range, CutsFrom}
use Rattle.parallel_row.proofs.Parts.{place_in-end}
use Rattle.parallel_row.specs.Cut.{Rises, part_of_cut, place_in}

-- no place is before the first one
from_place : (from to : ℕ) (rs : List (Range ℕ)) → CutsFrom from rs to → (n : ℕ)
    → from ≤ place_in from rs n
from_place from to [] cuts n = omega arith
from_place from to (r ∷ rs) cuts zero = omega arith
from_place from to (r ∷ rs) cuts (suc n) =
    let rest = from_place r.end to rs cuts.2 n in
    omega (arith, cuts.0, cuts.1, rest)

-- their places rise
pub place_in-rises : (from to : ℕ) (rs : List (Range ℕ)) → CutsFrom from rs to
    → Rises (place_in from rs)
place_in-rises from to [] cuts m n l = omega arith
place_in-rises from to (r ∷ rs) cuts zero n l = from_place from to (r ∷ rs) cuts n
place_in-rises from to (r ∷ rs) cuts (suc m) zero l = absurd (omega (arith, l))
place_in-rises from to (r ∷ rs) cuts (suc m) (suc n) l =
    place_in-rises r.end to rs cuts.2 m n (omega (arith, l))

-- the first place
pub place_in-first : (from : ℕ) (rs : List (Range ℕ)) → place_in from rs 0 ≡ from
place_in-first from [] = refl
place_in-first from (r ∷ rs) = refl

-- a range begins at its place
pub place_in-start : (from to : ℕ) (rs : List (Range ℕ)) → CutsFrom from rs to → (n : ℕ)
    (d : Range ℕ) → n < length rs → place_in from rs n ≡ (get_or rs n d).start
place_in-start from to [] cuts n d l = absurd (omega (arith, l))
place_in-start from to (r ∷ rs) cuts zero d l = sym cuts.0
place_in-start from to (r ∷ rs) cuts (suc n) d l =
    place_in-start r.end to rs cuts.2 n d (omega (arith, l))

-- the last place
pub place_in-last : (from to : ℕ) (rs : List (Range ℕ)) → CutsFrom from rs to
    → place_in from rs (length rs) ≡ to
place_in-last from to [] cuts = cuts
place_in-last from to (r ∷ rs) cuts = place_in-last r.end to rs cuts.2

module _ {X : Type 0} (len : ℕ) (rs : List (Range ℕ)) (cuts : CutsFrom 0 rs len) (n : ℕ)
    (d : Range ℕ) (within : n < length rs) where
  -- a range's part of a list
  pub part_of_range : (xs : List X) → part_of_cut (place_in 0 rs) 0 n xs
      ≡ take ((get_or rs n d).end - (get_or rs n d).start) (drop (get_or rs n d).start xs)
  part_of_range xs =
      let starts = place_in-start 0 len rs cuts n d within in
      let ends = place_in-end 0 rs (n + 1) n d (omega (arith, within)) in
      let first = place_in-first 0 rs in
      ap (λ k. take (place_in 0 rs (n + 1) - place_in 0 rs n) (drop k xs))
      {x = place_in 0 rs n - place_in 0 rs 0} {y = (get_or rs n d).start}
      (omega (arith, starts, first))
      ∙ ap (λ k. take k (drop (get_or rs n d).start xs))
      {x = place_in 0 rs (n + 1) - place_in 0 rs n}
      {y = (get_or rs n d).end - (get_or rs n d).start} (omega (arith, starts, ends))
