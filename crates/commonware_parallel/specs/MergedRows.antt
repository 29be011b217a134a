-- results of stretches that are merged row by row
use Rattle.std.specs.Prelude.{◌≡◌, ◌≢◌, ℕ, zero, suc, ◌+◌, ◌*◌, ◌%◌, ◌^◌, ◌<◌, Bool, true, List, [], ◌∷◌, ◌++◌, Option, Some, None, All, map}
use Rattle.std.specs.List.{FoldsTo}
use Rattle.std.specs.List.Sorted.{IsPermutation}
use Rattle.std.specs.declared.ops.Range.{Range}
use Rattle.parallel_shares.specs.declared.shares.stretch.Stretch.{Stretch}
use Rattle.parallel_shares.specs.Stretches.{IsStretch}
use Rattle.commonware_parallel.specs.Chains.{Chains}
use Rattle.commonware_parallel.specs.Rectangles.{CutsRectangle, IsWholeRow}

-- of stretches with their results, the stretches and the results
abbrev pub stretches_in : {R : Type 0} → List (Stretch × R) → List Stretch
stretches_in parts = map (λ part. part.0) parts

abbrev pub results_in : {R : Type 0} → List (Stretch × R) → List R
results_in parts = map (λ part. part.1) parts

-- what results are together, from left to right: one result is itself, and what came so far with
-- the next result is a result of merge
abbrev pub MergesTo : {R : Type 0} → (R → R → R → Type 0) → List R → R → Type 0
MergesTo merge [] value = ⊥
MergesTo merge (r ∷ rs) value = FoldsTo merge r rs value

-- stretches of a row that tile its columns from one up to another, from left to right
abbrev pub TilesRow : ℕ → ℕ → ℕ → List Stretch → Type 0
TilesRow row a b [] = a ≡ b
TilesRow row a b (s ∷ ss) = (s.row ≡ row) × (s.columns.start ≡ a) × (a < s.columns.end)
    × TilesRow row s.columns.end b ss

-- stretches with their results, row after row and each row from left to right: they tile the rows
-- below a number, and each row's value is what its results are together
abbrev pub RowValues : {R : Type 0} → (R → R → R → Type 0) → ℕ → ℕ → List (Stretch × R) → List R
    → Type 0
RowValues merge len zero parts values = (parts ≡ []) × (values ≡ [])
RowValues {R = R} merge len (suc row) parts values =
    (before own : List (Stretch × R)) × (some : List R) × (value : R)
    × RowValues merge len row before some × TilesRow row 0 len (stretches_in own)
    × MergesTo merge (results_in own) value × (parts ≡ before ++ own)
    × (values ≡ some ++ value ∷ [])

-- the same of stretches with their results in any order
abbrev pub MergesRows : {R : Type 0} → (R → R → R → Type 0) → ℕ → ℕ → List (Stretch × R) → List R
    → Type 0
MergesRows {R = R} merge rows len parts values = (ordered : List (Stretch × R))
    × IsPermutation parts ordered × RowValues merge len rows ordered values

-- chains over stretches that cut the grid, into whole rows where rows stay whole
abbrev pub FillsStretches : {T R : Type 0} → (T → Type 0) → (T → ℕ → Range ℕ → T → Type 0)
    → (T → Stretch → R → T → Type 0) → ℕ → ℕ → Bool → List Stretch → List R → Type 0
FillsStretches init fill ends rows len whole cut results = CutsRectangle rows len cut
    × (whole ≡ true → All (IsWholeRow len) cut) × Chains init fill ends cut results

-- such chains over some stretches, of which the results alone are told
abbrev pub FillsSome : {T R : Type 0} → (T → Type 0) → (T → ℕ → Range ℕ → T → Type 0)
    → (T → Stretch → R → T → Type 0) → ℕ → ℕ → Bool → List R → Type 0
FillsSome init fill ends rows len whole results =
    (cut : List Stretch) × FillsStretches init fill ends rows len whole cut results

-- the same, where what ends a stretch knows its row
abbrev pub FillsCut : {T R : Type 0} → (T → Type 0) → (T → ℕ → Range ℕ → T → Type 0)
    → (T → ℕ → R → T → Type 0) → ℕ → ℕ → Bool → List R → Type 0
FillsCut init fill finish = FillsSome init fill (λ s x. finish s x.row)

-- what ends a stretch gives it with its result
abbrev pub Names : {T R : Type 0} → (T → Stretch → R → T → Type 0) → T → Stretch → Stretch × R → T
    → Type 0
Names ends s x part t = (part.0 ≡ x) × ends s x part.1 t

-- ---- on the way

-- where a stretch begins among the cells, row after row
abbrev pub place_of : ℕ → Stretch → ℕ
place_of len s = s.row * len + s.columns.start

-- the same as it is computed, which wraps around for no stretch of a grid
abbrev pub wrapped_place : ℕ → Stretch → ℕ
wrapped_place len s = (s.row * len % 2 ^ 64 + s.columns.start) % 2 ^ 64

-- a stretch of the grid, with its result
abbrev pub IsThere : {R : Type 0} → ℕ → ℕ → Stretch × R → Type 0
IsThere rows len part = (part.0.row < rows) × IsStretch len part.0

-- stretches one after the other, from a cell up to another
abbrev pub Follows : {R : Type 0} → ℕ → ℕ → ℕ → List (Stretch × R) → Type 0
Follows len p n [] = p ≡ n
Follows len p n (part ∷ parts) = (place_of len part.0 ≡ p)
    × Follows len (part.0.row * len + part.0.columns.end) n parts

-- the next result after what came so far of its row, if anything did
abbrev pub Joins : {R : Type 0} → (R → R → R → Type 0) → Option R → R → R → Type 0
Joins merge None r value = value ≡ r
Joins merge (Some so_far) r value = merge so_far r value

-- the value of a row that ends is put after the others, and that of a row that goes on is held
abbrev pub Placed : {R : Type 0} → ℕ → ℕ → R → List R → List R → Option R → Type 0
Placed len end value before after held =
    (end ≡ len → (after ≡ before ++ value ∷ []) × (held ≡ None))
    × (end ≢ len → (after ≡ before) × (held ≡ Some value))
