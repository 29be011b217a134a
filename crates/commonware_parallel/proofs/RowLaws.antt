-- What holds of the results of a row's stretches, and of results that are merged, holds of the
-- row's value.
use Rattle.commonware_parallel.proofs.Common.{◌≡◌, ℕ, zero, suc, ◌+◌, ◌<◌, ◌≤◌, List, [], ◌∷◌, ◌++◌, All, add-one, ap, subst, ◌∙◌, arith, AllZip, FoldsTo, range_with_len, All-nil, All-cons, All-head, All-tail}
use Rattle.commonware_parallel.proofs.Common.{All-permutation, Stretch, stretches_in, results_in, MergesTo, TilesRow, RowValues, MergesRows}
use Rattle.parallel_bridge.proofs.Shapes.{MapOf-append}
use Rattle.parallel_shares.proofs.Stretching.{numbers_cut}

-- of a list in two parts
pub All-front : {X : Type 0} (P : X → Type 0) (xs ys : List X) → All P (xs ++ ys) → All P xs
All-front P [] ys h = All-nil P
All-front P (x ∷ xs) ys h =
    All-cons P x xs (All-head P x (xs ++ ys) h) (All-front P xs ys (All-tail P x (xs ++ ys) h))

pub All-back : {X : Type 0} (P : X → Type 0) (xs ys : List X) → All P (xs ++ ys) → All P ys
All-back P [] ys h = h
All-back P (x ∷ xs) ys h = All-back P xs ys (All-tail P x (xs ++ ys) h)

-- stretches that tile columns don't end before they begin
tiles_up : (row a b : ℕ) (ss : List Stretch) → TilesRow row a b ss → a ≤ b
tiles_up row a b [] same = omega (arith, same)
tiles_up row a b (s ∷ ss) tiled =
    omega (arith, tiled.2, tiles_up row s.columns.end b ss tiled.3)

-- one value more, for the next number
pub next_value : {R : Type 0} (P : ℕ → R → Type 0) (n : ℕ) (values after : List R) (value : R)
    → AllZip P (range_with_len 0 n) values → P n value → after ≡ values ++ value ∷ []
    → AllZip P (range_with_len 0 (n + 1)) after
next_value P n values after value so_far is more =
    let same : 0 + n ≡ n = omega arith in
    let numbers : range_with_len 0 (n + 1) ≡ range_with_len 0 n ++ n ∷ [] =
    numbers_cut 0 n 1 ∙ ap (λ k. range_with_len 0 n ++ k ∷ []) same in
    rw (more, numbers)
    (MapOf-append P (range_with_len 0 n) (n ∷ []) values (value ∷ []) so_far (is, tt))

module _ {R : Type 0} (merge : R → R → R → Type 0) (rows len : ℕ) (holds : ℕ → ℕ → ℕ → R → Type 0)
    (both : (row a b c : ℕ) (left right value : R) → row < rows → a < b → b < c → c ≤ len
    → holds row a b left → holds row b c right → merge left right value → holds row a c value) where
  -- a result holds of its stretch
  abbrev pub Holds : Stretch × R → Type 0
  Holds part = holds part.0.row part.0.columns.start part.0.columns.end part.1

  -- so it does of the columns that the stretch has
  at_columns : (row a : ℕ) (part : Stretch × R) → part.0.row ≡ row → part.0.columns.start ≡ a
      → Holds part → holds row a part.0.columns.end part.1
  at_columns row a part there start h =
      subst (λ n. holds n a part.0.columns.end part.1) there
      (subst (λ n. holds part.0.row n part.0.columns.end part.1) start h)

  -- what came so far of a row, and its parts from a column on
  columns_on : (row b : ℕ) (own : List (Stretch × R)) (so_far value : R) → row < rows → 0 < b
      → TilesRow row b len (stretches_in own) → All Holds own → holds row 0 b so_far
      → FoldsTo merge so_far (results_in own) value → holds row 0 len value
  columns_on row b [] so_far value there some tiled all so same =
      subst (λ n. holds row 0 n value) tiled (subst (holds row 0 b) same so)
  columns_on row b (x ∷ own) so_far value there some tiled all so (next, merged, more) =
      let end = x.0.columns.end in
      let below : end ≤ len = tiles_up row end len (stretches_in own) tiled.3 in
      let here = at_columns row b x tiled.0 tiled.1 (All-head Holds x own all) in
      columns_on row end own next value there (omega (arith, some, tiled.2)) tiled.3
      (All-tail Holds x own all)
      (both row 0 b end so_far x.1 next there some tiled.2 below so here merged) more

  row_value : (row : ℕ) (own : List (Stretch × R)) (value : R) → row < rows
      → TilesRow row 0 len (stretches_in own) → All Holds own
      → MergesTo merge (results_in own) value → holds row 0 len value
  row_value row [] value there tiled all none = absurd none
  row_value row (x ∷ own) value there tiled all merged =
      columns_on row x.0.columns.end own x.1 value there tiled.2 tiled.3 (All-tail Holds x own all)
      (at_columns row 0 x tiled.0 tiled.1 (All-head Holds x own all)) merged

  rows_values : (n : ℕ) (parts : List (Stretch × R)) (values : List R) → n ≤ rows
      → All Holds parts → RowValues merge len n parts values
      → AllZip (λ row value. holds row 0 len value) (range_with_len 0 n) values
  rows_values zero parts values below all none = rw none.1 tt
  rows_values (suc row) parts values below all
      (before, own, some, value, done, tiled, merged, split, behind) =
      let each : All Holds (before ++ own) = subst (All Holds) split all in
      let first = rows_values row before some (omega (arith, below))
      (All-front Holds before own each) done in
      let last = row_value row own value (omega (arith, below)) tiled
      (All-back Holds before own each) merged in
      subst (λ k. AllZip (λ row value. holds row 0 len value) (range_with_len 0 k) values)
      (add-one row) (next_value (λ k v. holds k 0 len v) row some values value first last behind)

  pub merged_hold : (parts : List (Stretch × R)) (values : List R) → All Holds parts
      → MergesRows merge rows len parts values
      → AllZip (λ row value. holds row 0 len value) (range_with_len 0 rows) values
  merged_hold parts values all (ordered, moved, done) =
      rows_values rows ordered values (omega arith)
      (All-permutation Holds parts ordered moved all) done
