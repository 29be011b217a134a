-- What it means to cut a line of indices into balanced ranges.
use Rattle.std.specs.Prelude.{◌≡◌, ℕ, ◌+◌, ◌-◌, ◌≤◌, List, [], ◌∷◌, AllPairs}
use Rattle.std.specs.declared.ops.Range.{Range}

-- how many indices a range has
abbrev pub range_length : Range ℕ → ℕ
range_length r = r.end - r.start

-- the ranges stand one after another, in order and with no gap, from one index up to another
abbrev pub CutsFrom : ℕ → List (Range ℕ) → ℕ → Type 0
CutsFrom from [] to = from ≡ to
CutsFrom from (r ∷ rs) to = (r.start ≡ from) × (r.start ≤ r.end) × CutsFrom r.end rs to

-- a later range has no more indices than an earlier one, and at most one less
abbrev pub IsEven : List (Range ℕ) → Type 0
IsEven rs =
    AllPairs (λ a b. (range_length b ≤ range_length a) × (range_length a ≤ range_length b + 1)) rs

-- The ranges are in order and without a gap from 0 to len (CutsFrom), their lengths differ by at
-- most one, and the longer ones come first (IsEven). There is one such list of that many ranges.
abbrev pub BalancedCut : ℕ → List (Range ℕ) → Type 0
BalancedCut len rs = CutsFrom 0 rs len × IsEven rs
