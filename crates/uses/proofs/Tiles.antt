-- Counts of a matrix's cells, row by row.
use Rattle.std.proofs.Common.{◌≡◌, ℕ, ◌+◌, ◌-◌, ◌*◌, ◌<◌, ◌≤◌, ◌%◌, ◌^◌, List, Bool, length, drop, sym, ap, ◌∙◌, arith, cond, length-append, length-drop}
use Rattle.std.specs.declared.ops.Range.{Range}
use Rattle.std.specs.List.{slice_range}
use Rattle.std.proofs.lemmas.List.Folds.{drop_split}
use Rattle.std.proofs.lemmas.List.Sums.{count_by-le-length, sum_by-append}
use Rattle.std.proofs.lemmas.Nat.{row_fits}
use Rattle.commonware_parallel.specs.RowFolds.{IsPartOfRows}
use Rattle.uses.specs.Tiles.{number_of, row_cells}

module _ (test : ℕ → Bool) (matrix : List ℕ) where
  -- how many cells from a place on pass the test
  abbrev from : ℕ → ℕ
  from place = number_of test (drop place matrix)

  -- the cells from a place up to another
  between : (a b : ℕ) → a ≤ b → number_of test (slice_range matrix a b) + from b ≡ from a
  between a b h =
      sym (ap (number_of test) (drop_split matrix a b h)
      ∙ sum_by-append (λ cell. cond (test cell) 1 0) (slice_range matrix a b)
      (drop b matrix))

  -- no range has more of them than places
  number_small : (a b : ℕ) → a ≤ b → number_of test (slice_range matrix a b) ≤ b - a
  number_small a b h =
      let parts : length (drop a matrix)
      ≡ length (slice_range matrix a b) + length (drop b matrix) =
      ap length (drop_split matrix a b h)
      ∙ length-append (slice_range matrix a b) (drop b matrix) in
      omega (
        arith,
        parts,
        length-drop a matrix,
        length-drop b matrix,
        count_by-le-length test (slice_range matrix a b),
      )

module _ (test : ℕ → Bool) (matrix : List ℕ) (len : ℕ) where
  -- how many cells of a row pass the test, from one column up to another
  abbrev pub number : ℕ → ℕ → ℕ → ℕ
  number row a b = number_of test (row_cells matrix len row a b)

  both_numbers : (row a b c : ℕ) → a ≤ b → b ≤ c → number row a b + number row b c ≡ number row a c
  both_numbers row a b c low high =
      let one = between test matrix (row * len + a) (row * len + b) (omega (arith, low)) in
      let two = between test matrix (row * len + b) (row * len + c) (omega (arith, high)) in
      let all = between test matrix (row * len + a) (row * len + c) (omega (arith, low, high))
      in omega (arith, one, two, all)

  number_fits : (row a b : ℕ) → len < 2 ^ 64 → a ≤ b → b ≤ len → number row a b < 2 ^ 64
  number_fits row a b small low within =
      let most = number_small test matrix (row * len + a) (row * len + b) (omega (arith, low))
      in omega (arith, most, small, within)

  -- numbers of neighbouring columns add up, and none is too large to be counted
  pub numbers_added : (row a b c left right sum : ℕ) → len < 2 ^ 64 → a < b → b < c → c ≤ len
      → left ≡ number row a b → right ≡ number row b c → sum ≡ (left + right) % 2 ^ 64
      → sum ≡ number row a c
  numbers_added row a b c left right sum small low high within one two added = omega (
    arith,
    one,
    two,
    added,
    both_numbers row a b c (omega (arith, low)) (omega (arith, high)),
    number_fits row a c small (omega (arith, low, high)) within,
  )

-- a part of the matrix's rows lies in the matrix
pub in_matrix : (rows len : ℕ) (matrix : List ℕ) (row : ℕ) (columns : Range ℕ)
    → rows * len ≡ length matrix → IsPartOfRows rows len row columns
    → (columns.start ≤ columns.end) × (row * len + columns.end ≤ length matrix)
in_matrix rows len matrix row columns all is = (
  is.1,
  omega (arith, all, is.2, row_fits row len rows len is.0 (omega arith)),
)
