-- Set flags, counted range by range.
use Rattle.std.proofs.Common.{◌≡◌, ℕ, suc, ◌+◌, ◌<◌, ◌≤◌, Bool, List, ◌∷◌, length, drop, cond, sym, ◌∙◌, ap, subst, get_or, count_by, arith}
use Rattle.std.specs.List.{slice_range}
use Rattle.std.specs.declared.ops.Range.{Range}
use Rattle.std.proofs.Math.Seq.{drop-cons}
use Rattle.std.proofs.lemmas.List.Folds.{drop_split}
use Rattle.std.proofs.lemmas.List.Sums.{sum_by-append}
use Rattle.parallel_shares.specs.Cut.{CutsFrom}
use Rattle.parallel_shares.proofs.Cuts.{CutsFrom-ordered}

-- how many are set
abbrev pub set_of : List Bool → ℕ
set_of flags = count_by (λ flag. flag) flags

-- the ranges so far cut the flags up to an index, and the count is that of the flags before it
abbrev pub CountsTo : List Bool → List (Range ℕ) → ℕ → ℕ → Type 0
CountsTo flags ranges index count = (at : ℕ) × CutsFrom at (drop index ranges) (length flags)
    × (count + set_of (drop at flags) ≡ set_of flags)

-- the next range begins where the ones before it end, and lies within the flags
pub next_range : (flags : List Bool) (ranges : List (Range ℕ)) (index count : ℕ) (d : Range ℕ)
    → index < length ranges → CountsTo flags ranges index count
    → ((get_or ranges index d).start ≤ (get_or ranges index d).end)
    × ((get_or ranges index d).end ≤ length flags)
    × (count + set_of (slice_range flags (get_or ranges index d).start
    (get_or ranges index d).end) ≤ set_of flags)
    × CountsTo flags ranges (index + 1)
    (count + set_of (slice_range flags (get_or ranges index d).start (get_or ranges index d).end))
next_range flags ranges index count d within (at, cuts, counted) =
    let r = get_or ranges index d in
    let here : CutsFrom at (r ∷ drop (suc index) ranges) (length flags) =
    subst (λ l. CutsFrom at l (length flags)) (drop-cons ranges index d within) cuts in
    let up : suc index ≡ index + 1 = omega arith in
    let later : CutsFrom r.end (drop (index + 1) ranges) (length flags) =
    subst (λ i. CutsFrom r.end (drop i ranges) (length flags)) up here.2 in
    let ends = CutsFrom-ordered r.end (length flags) (drop (index + 1) ranges) later in
    let split : set_of (drop r.start flags) ≡ set_of (slice_range flags r.start r.end) + set_of
    (drop r.end flags) =
    ap set_of (drop_split flags r.start r.end here.1)
    ∙ sum_by-append (λ flag. cond flag 1 0) (slice_range flags r.start r.end)
    (drop r.end flags) in
    let same : set_of (drop at flags) ≡ set_of (drop r.start flags) =
    ap (λ n. set_of (drop n flags)) (sym here.0) in (
      here.1,
      ends,
      omega (arith, counted, split, same),
      (r.end, later, omega (arith, counted, split, same)),
    )
