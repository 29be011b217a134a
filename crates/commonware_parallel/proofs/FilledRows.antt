-- Chains of fills and finishes, one after another.
use Rattle.commonware_parallel.proofs.Common.{◌≡◌, ◌≢◌, ℕ, zero, suc, ◌<◌, List, [], ◌∷◌, ◌++◌, refl, sym, ap, subst, ◌∙◌, add-one, arith, Range, Stretch, Filled, no_fill, last_fill, Finished, WholeRows}
use Rattle.commonware_parallel.proofs.Common.{whole_row, whole_rows, finished_append}
use Rattle.std.proofs.lemmas.List.FromFn.{map-range_with_len_more}

-- a number that is not 0
pub positive : (n : ℕ) → n ≢ 0 → 0 < n
positive zero h = absurd (h refl)
positive (suc n) h = omega arith

module _ {T R : Type 0} (fill : T → ℕ → Range ℕ → T → Type 0)
    (ends : T → Stretch → R → T → Type 0) where
  -- rows that were filled by one call each were filled, and finished
  pub rows_finished : (len : ℕ) (s t : T) (rows : ℕ) (results : List R) → len ≢ 0
      → WholeRows fill ends len s rows results t
      → Finished fill ends s (whole_rows len 0 rows) results t
  rows_finished len s t zero results wide (same, none) = rw none same
  rows_finished len s t (suc row) results wide (u, v, before, r, first, fills, gives, more) =
      let filled : Filled fill row u 0 len v =
      last_fill u u v 0 0 len (no_fill u u 0 0 refl refl) (positive len wide) fills in
      let one_more : whole_rows len 0 (suc row) ≡ whole_rows len 0 row ++ whole_row len row ∷ [] =
      ap (whole_rows len 0) (sym (add-one row))
      ∙ map-range_with_len_more (whole_row len) 0 row row (omega arith) in
      subst (λ l. Finished fill ends s l results t) (sym one_more)
      (rw more (finished_append fill ends s u t (whole_rows len 0 row) (whole_row len row ∷ [])
      before (r ∷ []) (rows_finished len s u row before wide first) (t, (v, filled, gives), refl)))
