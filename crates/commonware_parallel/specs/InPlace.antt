-- The parts of a list that ranges cut, each changed where it lies.
use Rattle.std.specs.Prelude.{◌≡◌, ℕ, List, All, length, slice_range}
use Rattle.std.specs.Borrow.{MutBor}
use denote.Param.Members.{Shared}
use Rattle.std.specs.Fork.{AcceptsAt, ChangesAt}
use Rattle.std.specs.declared.ops.Range.{Range}

module _ {F X : Type 0}
    (g : Shared F (ℕ × (MutBor (List X) × Unit {0})) (Unit {0} × (MutBor (List X) × Unit {0})))
    (f : F) where
  -- f may be called with each range's part of the list and the index at which the range begins
  abbrev pub AcceptsParts : List (Range ℕ) → List X → Type 0
  AcceptsParts rs xs = All (λ r. AcceptsAt g f r.start (slice_range xs r.start r.end)) rs

  -- the list is as long as it was, and each range's part is what a call of f left there
  abbrev pub ChangesParts : List (Range ℕ) → List X → List X → Type 0
  ChangesParts rs xs ys = (length ys ≡ length xs)
      × All (λ r. ChangesAt g f r.start (slice_range xs r.start r.end)
      (slice_range ys r.start r.end)) rs
