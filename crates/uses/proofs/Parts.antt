-- A list that is cut off range by range.
use Rattle.std.proofs.Common.{◌≡◌, ℕ, suc, ◌+◌, ◌-◌, ◌<◌, ◌≤◌, List, ◌∷◌, length, drop, get_or, subst, arith}
use Rattle.std.specs.declared.ops.Range.{Range}
use Rattle.std.proofs.Math.Seq.{drop-cons}
use Rattle.parallel_shares.specs.Cut.{CutsFrom, range_length}
use Rattle.parallel_shares.proofs.Cuts.{CutsFrom-ordered}

-- the ranges that are left cut that many places
abbrev pub CutsRest : List (Range ℕ) → ℕ → ℕ → Type 0
CutsRest ranges index left =
    (at : ℕ) × (to : ℕ) × CutsFrom at (drop index ranges) to × (at + left ≡ to)

-- the next range is no longer than what is left, and the others cut what is left after it
pub next_part : (ranges : List (Range ℕ)) (index left : ℕ) (d : Range ℕ) → index < length ranges
    → CutsRest ranges index left
    → ((get_or ranges index d).start ≤ (get_or ranges index d).end)
    × (range_length (get_or ranges index d) ≤ left)
    × CutsRest ranges (index + 1) (left - range_length (get_or ranges index d))
next_part ranges index left d within (at, to, cuts, whole) =
    let r = get_or ranges index d in
    let here : CutsFrom at (r ∷ drop (suc index) ranges) to =
    subst (λ l. CutsFrom at l to) (drop-cons ranges index d within) cuts in
    let up : suc index ≡ index + 1 = omega arith in
    let later : CutsFrom r.end (drop (index + 1) ranges) to =
    subst (λ i. CutsFrom r.end (drop i ranges) to) up here.2 in
    let ends = CutsFrom-ordered r.end to (drop (index + 1) ranges) later in (
      here.1,
      omega (arith, here.0, here.1, ends, whole),
      (r.end, to, later, omega (arith, here.0, here.1, ends, whole)),
    )
