-- Stretches that follow one another, merged row by row.
use Rattle.commonware_parallel.proofs.Common.{◌≡◌, ℕ, zero, suc, ◌+◌, ◌*◌, ◌<◌, inl, inr, List, [], ◌∷◌, ◌++◌, All, Option, Some, None, length, refl, sym, ap, subst, ◌∙◌, append-nil, append_assoc}
use Rattle.commonware_parallel.proofs.Common.{length-append, arith, cases_lt, map-append, All-head, All-tail, same_from_place, Stretch, stretches_in, results_in, MergesTo, TilesRow, RowValues, Joins}
use Rattle.commonware_parallel.proofs.Common.{Placed, IsThere, Follows}
use Rattle.std.proofs.lemmas.Fn.{FoldsTo-push}

-- one stretch more, where the others end
tiles_push : (row a b : ℕ) (ss : List Stretch) (s : Stretch) → TilesRow row a b ss → s.row ≡ row
    → s.columns.start ≡ b → b < s.columns.end → TilesRow row a s.columns.end (ss ++ s ∷ [])
tiles_push row a b [] s tiled there start some =
    (there, start ∙ sym tiled, subst (λ c. c < s.columns.end) (sym tiled) some, refl)
tiles_push row a b (x ∷ ss) s tiled there start some =
    (tiled.0, tiled.1, tiled.2, tiles_push row x.columns.end b ss s tiled.3 there start some)

module _ {R : Type 0} (merge : R → R → R → Type 0) where
  -- what came so far of a row, up to a column: nothing, or a value
  abbrev pub Opened : Option R → ℕ → List (Stretch × R) → Type 0
  Opened None column own = (own ≡ []) × (column ≡ 0)
  Opened (Some value) column own = (0 < column) × MergesTo merge (results_in own) value

  -- one result more
  merges_push : (held : Option R) (column : ℕ) (own : List (Stretch × R)) (part : Stretch × R)
      (value : R) → Opened held column own → Joins merge held part.1 value
      → MergesTo merge (results_in (own ++ part ∷ [])) value
  merges_push None column own part value none same =
      subst (λ l. MergesTo merge (results_in (l ++ part ∷ [])) value) (sym none.0) (sym same)
  merges_push (Some so_far) column [] part value some joined = absurd some.1
  merges_push (Some so_far) column (x ∷ own) part value some joined =
      subst (λ l. MergesTo merge (x.1 ∷ l) value)
      (sym (map-append (λ (p : Stretch × R). p.1) own (part ∷ [])))
      (FoldsTo-push merge x.1 (results_in own) so_far part.1 value some.1 joined)

  module _ (rows len : ℕ) where
    -- the stretches that came are whole rows and the beginning of one, and what is left goes on
    -- where they end
    pub record At (rest came : List (Stretch × R)) (values : List R)
        (held : Option R) : Type 0 where
      pub row : ℕ
      pub column : ℕ
      pub before : List (Stretch × R)
      pub own : List (Stretch × R)
      pub inside_row : column < len
      pub follow : Follows len (row * len + column) (rows * len) rest
      pub there : All (IsThere rows len) rest
      pub done : RowValues merge len row before values
      pub tiled : TilesRow row 0 column (stretches_in own)
      pub opened : Opened held column own
      pub both : came ≡ before ++ own

    -- so it is of the stretches that came, whatever is left
    abbrev pub Sofar : List (Stretch × R) → List R → Option R → Type 0
    Sofar came values held = (rest : List (Stretch × R))
        → Follows len 0 (rows * len) (came ++ rest) → All (IsThere rows len) (came ++ rest)
        → At rest came values held

    pub nothing_so_far : 0 < len → Sofar [] [] None
    nothing_so_far wide rest follow there = record {
      row = 0;
      column = 0;
      before = [];
      own = [];
      inside_row = wide;
      follow = let first : 0 ≡ 0 * len + 0 = omega arith in
          subst (λ p. Follows len p (rows * len) rest) first follow;
      there = there;
      done = (refl, refl);
      tiled = refl;
      opened = (refl, refl);
      both = refl;
    }

    at_next : (part : Stretch × R) (rest came : List (Stretch × R)) (values after : List R)
        (held next : Option R) (value : R) → At (part ∷ rest) came values held
        → Joins merge held part.1 value → Placed len part.0.columns.end value values after next
        → At rest (came ++ part ∷ []) after next
    at_next part rest came values after held next value at joined placed =
        let is : IsThere rows len part = All-head (IsThere rows len) part rest at.there in
        let place = same_from_place part.0.row part.0.columns.start at.row at.column len
        (omega (arith, is.1)) at.inside_row at.follow.0 in
        let some : at.column < part.0.columns.end = omega (arith, place.1, is.1.0) in
        let tiled : TilesRow at.row 0 part.0.columns.end (stretches_in (at.own ++ part ∷ [])) =
        subst (TilesRow at.row 0 part.0.columns.end)
        (sym (map-append (λ (p : Stretch × R). p.0) at.own (part ∷ [])))
        (tiles_push at.row 0 at.column (stretches_in at.own) part.0 at.tiled place.0 place.1
        some) in
        let merged = merges_push held at.column at.own part value at.opened joined in
        let both : came ++ part ∷ [] ≡ at.before ++ (at.own ++ part ∷ []) =
        ap (λ l. l ++ part ∷ []) at.both ∙ append_assoc at.before at.own (part ∷ []) in
        let row_same : part.0.row * len ≡ at.row * len = ap (λ r. r * len) place.0 in
        elim (cases_lt part.0.columns.end len) as
        (λ _. At rest (came ++ part ∷ []) after next) [
          | inl l ↦
              let put = placed.1 (λ e. omega (arith, e, l)) in
              let goes : part.0.row * len + part.0.columns.end
              ≡ at.row * len + part.0.columns.end = omega (arith, row_same) in
              record {
                row = at.row;
                column = part.0.columns.end;
                before = at.before;
                own = at.own ++ part ∷ [];
                inside_row = l;
                follow = subst (λ p. Follows len p (rows * len) rest) goes at.follow.1;
                there = All-tail (IsThere rows len) part rest at.there;
                done = subst (RowValues merge len at.row at.before) (sym put.0) at.done;
                tiled = tiled;
                opened = subst (λ o. Opened o part.0.columns.end (at.own ++ part ∷ []))
                    (sym put.1) (omega (arith, some), merged);
                both = both;
              }
          | inr m ↦
              let end : part.0.columns.end ≡ len = omega (arith, m, is.1.1) in
              let put = placed.0 end in
              let goes : part.0.row * len + part.0.columns.end ≡ suc at.row * len + 0 =
              omega (arith, row_same, end) in
              record {
                row = suc at.row;
                column = 0;
                before = at.before ++ (at.own ++ part ∷ []);
                own = [];
                inside_row = omega (arith, at.inside_row);
                follow = subst (λ p. Follows len p (rows * len) rest) goes at.follow.1;
                there = All-tail (IsThere rows len) part rest at.there;
                done = (
                  at.before,
                  at.own ++ part ∷ [],
                  values,
                  value,
                  at.done,
                  subst (λ c. TilesRow at.row 0 c (stretches_in (at.own ++ part ∷ []))) end tiled,
                  merged,
                  refl,
                  put.0,
                );
                tiled = refl;
                opened = subst (λ o. Opened o 0 []) (sym put.1) (refl, refl);
                both = both ∙ sym (append-nil (at.before ++ (at.own ++ part ∷ [])));
              }
        ]

    -- one stretch more
    pub next_so_far : (part : Stretch × R) (came : List (Stretch × R)) (values after : List R)
        (held next : Option R) (value : R) → Sofar came values held
        → Joins merge held part.1 value → Placed len part.0.columns.end value values after next
        → Sofar (came ++ part ∷ []) after next
    next_so_far part came values after held next value so_far joined placed rest follow there =
        let same : (came ++ part ∷ []) ++ rest ≡ came ++ (part ∷ rest) =
        append_assoc came (part ∷ []) rest in
        at_next part rest came values after held next value
        (so_far (part ∷ rest) (subst (Follows len 0 (rows * len)) same follow)
        (subst (All (IsThere rows len)) same there)) joined placed

    -- once all came
    pub all_so_far : (parts : List (Stretch × R)) (values : List R) (held : Option R)
        → Sofar parts values held → All (IsThere rows len) parts
        → Follows len 0 (rows * len) parts → RowValues merge len rows parts values
    all_so_far parts values held so_far there follow =
        let at = so_far [] (subst (Follows len 0 (rows * len)) (sym (append-nil parts)) follow)
        (subst (All (IsThere rows len)) (sym (append-nil parts)) there) in
        let end : at.row * len + at.column ≡ rows * len + 0 = omega (arith, at.follow) in
        let place = same_from_place at.row at.column rows 0 len at.inside_row
        (omega (arith, at.inside_row)) end in
        let none : at.own ≡ [] = nothing_open held at.column at.own at.opened place.1 in
        let all : at.before ≡ parts =
        sym (append-nil at.before) ∙ ap (λ l. at.before ++ l) (sym none) ∙ sym at.both in
        subst (λ l. RowValues merge len rows l values) all
        (subst (λ r. RowValues merge len r at.before values) place.0 at.done)
      where
        nothing_open : (held : Option R) (column : ℕ) (own : List (Stretch × R))
            → Opened held column own → column ≡ 0 → own ≡ []
        nothing_open None column own opened start = opened.0
        nothing_open (Some value) column own opened start = absurd (omega (arith, opened.0, start))

  -- each row has a value
  pub as_many_values : (len rows : ℕ) (parts : List (Stretch × R)) (values : List R)
      → RowValues merge len rows parts values → length values ≡ rows
  as_many_values len zero parts values none = ap length none.1
  as_many_values len (suc row) parts values more =
      let before : length more.2 ≡ row = as_many_values len row more.0 more.2 more.4 in
      omega (arith, before, ap length more.8, length-append more.2 (more.3 ∷ []))
