-- One value for each row, of a kernel whose values of neighbouring columns are merged.
use Rattle.std.specs.Prelude.{◌≡◌, ℕ, ◌<◌, ◌≤◌, List, Option, Some, None}
use Rattle.std.specs.List.{range_with_len}
use Rattle.std.specs.declared.ops.Range.{Range}
use Rattle.parallel_bridge.specs.Lists.{MapOf}
use Rattle.parallel_policy.specs.declared.Site.{Site}
use Rattle.parallel_shares.specs.declared.grid.Grid.{Grid}
use Rattle.parallel_shares.specs.Grid.{critical_cost}
use Rattle.parallel_shares.specs.declared.shares.stretch.Stretch.{Stretch}
use Rattle.commonware_parallel.specs.Calls.{tiles_call}
use Rattle.commonware_parallel.specs.MergedRows.{Joins}
use Rattle.commonware_parallel.specs.declared.call.Call.{Call}
use Rattle.commonware_parallel.specs.declared.call.Pick.{Pick}
use Rattle.commonware_parallel.specs.declared.call.Pick.TheVariants.{Into}

-- the columns from one up to another
abbrev pub columns_between : ℕ → ℕ → Range ℕ
columns_between a b = record { start = a; end = b }

-- a row below a number, and columns of it, maybe none
abbrev pub IsPartOfRows : ℕ → ℕ → ℕ → Range ℕ → Type 0
IsPartOfRows rows len row columns = (row < rows) × (columns.start ≤ columns.end)
    × (columns.end ≤ len)

-- Two cases. The value is one that the kernel may give of a row's columns from a up to b. Or a
-- column m lies between, the columns up to it and those from it on have a value each, and the value
-- is what merge may give of the two, left before right.
pub data FoldsColumns {R : Type 0} (kernel : ℕ → Range ℕ → R → Type 0)
    (merge : R → R → R → Type 0) (row : ℕ) : ℕ → ℕ → R → Type 0 where
  of_columns : (a b : ℕ) (value : R) → kernel row (columns_between a b) value
      → FoldsColumns kernel merge row a b value
  of_both : (a m b : ℕ) (left right value : R) → a < m → m < b
      → FoldsColumns kernel merge row a m left → FoldsColumns kernel merge row m b right
      → merge left right value → FoldsColumns kernel merge row a b value

-- one value for each row below a number, folded of all of its columns
abbrev pub FoldsRows : {R : Type 0} → (ℕ → Range ℕ → R → Type 0) → (R → R → R → Type 0) → ℕ → ℕ
    → List R → Type 0
FoldsRows kernel merge rows len values =
    MapOf (λ row value. FoldsColumns kernel merge row 0 len value) (range_with_len 0 rows) values

-- The law of additive kernels: of a row's columns from a up to c, the kernel may give what merge
-- may give of its values from a up to b and from b up to c.
abbrev pub IsAdditive : {R : Type 0} → (ℕ → Range ℕ → R → Type 0) → (R → R → R → Type 0) → ℕ → ℕ
    → Type 0
IsAdditive {R = R} kernel merge rows len = (row a b c : ℕ) (left right value : R) → row < rows
    → a < b → b < c → c ≤ len → kernel row (columns_between a b) left
    → kernel row (columns_between b c) right → merge left right value
    → kernel row (columns_between a c) value

-- one value for each row below a number, which the kernel may give of all of its columns
abbrev pub GivesRows : {R : Type 0} → (ℕ → Range ℕ → R → Type 0) → ℕ → ℕ → List R → Type 0
GivesRows kernel rows len values =
    MapOf (λ row value. kernel row (columns_between 0 len) value) (range_with_len 0 rows) values

-- the strategy may take some number of workers for tiles of one grid, on rows of that many columns,
-- whose work is what the grid costs one worker
abbrev pub AskedByRow : {S : Type 0} → (S → Site → Call → Pick → Type 0) → (S → ℕ) → S → Site → Grid
    → ℕ → Type 0
AskedByRow takes plans strategy site grid len = (workers : ℕ) × (0 < workers)
    × (workers ≤ plans strategy)
    × takes strategy site (tiles_call (plans strategy) len (critical_cost grid len 1) 1)
    (Into workers)

-- ---- on the way: what came so far of a row is the state

-- more columns: their value is merged with what came so far, if anything did
abbrev pub FoldsOn : {R : Type 0} → (ℕ → Range ℕ → R → Type 0) → (R → R → R → Type 0) → Option R → ℕ
    → Range ℕ → Option R → Type 0
FoldsOn {R = R} kernel merge before row columns after = (next value : R) × kernel row columns next
    × Joins merge before next value × (after ≡ Some value)

-- what came so far is the result, and is gone
abbrev pub EndsFold : {R : Type 0} → Option R → Stretch → R → Option R → Type 0
EndsFold None stretch value after = after ≡ None
EndsFold (Some so_far) stretch value after = (value ≡ so_far) × (after ≡ None)
