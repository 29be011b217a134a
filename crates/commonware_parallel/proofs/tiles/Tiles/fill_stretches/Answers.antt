-- No cell, all rows by one chain, or what the seats have together.
use Rattle.commonware_parallel.proofs.{rules, ◌≡◌, ◌∙◌, inl, inr, false, [], refl, sym, true≢false, non_zero_usize_get, All-nil, IsWholeRow, whole_rows, positive, rows_finished, chains_of_none}
use Rattle.commonware_parallel.proofs.{chains_of_one, no_rectangle, whole_rectangle, rows_are_whole}
use Rattle.commonware_parallel.proofs.tiles.Tiles.fill_stretches.Goals as goal

pub returns-then-is_empty-clause-fills : goal.returns-then-is_empty-clause-fills
returns-then-is_empty-clause-fills g c =
    let self = c.args.self in (
      [],
      (
        no_rectangle self.rows self.len (c.is_empty.ensures.empty (search rules)),
        (λ _. All-nil (IsWholeRow self.len)),
        chains_of_none _ _ _ c.new.result.items c.new.ensures.items,
      ),
    )

pub returns-then-is_empty-clause-serial : goal.returns-then-is_empty-clause-serial
returns-then-is_empty-clause-serial g c one r l =
    elim (c.is_empty.ensures.empty (search rules)) [ inl e ↦ absurd (r e) | inr e ↦ absurd (l e) ]

pub returns-then-is_serial-clause-fills : goal.returns-then-is_serial-clause-fills
returns-then-is_serial-clause-fills g c =
    let self = c.args.self in
    let wide = positive self.len (c.is_empty.ensures.some_columns (search rules)) in (
      whole_rows self.len 0 self.rows,
      (
        whole_rectangle self.rows self.len wide,
        (λ _. rows_are_whole self.len 0 self.rows),
        chains_of_one _ _ _ c.init-state.result _
            (whole_rows self.len 0 self.rows) c.in_ok-whole.whole.items c.init-state.ensures
            (rows_finished _ _ self.len c.init-state.result _ self.rows c.in_ok-whole.whole.items
            (c.is_empty.ensures.some_columns (search rules)) c.in_ok-whole.ensures.chain),
      ),
    )

pub returns-then-is_serial-clause-serial : goal.returns-then-is_serial-clause-serial
returns-then-is_serial-clause-serial g c one r l =
    (c.init-state.result, _, c.init-state.ensures, c.in_ok-whole.ensures.chain)

pub returns-then-is_serial-clause-empty : goal.returns-then-is_serial-clause-empty
returns-then-is_serial-clause-empty g c none =
    elim none [
      | inl e ↦ absurd (c.is_empty.ensures.some_rows (search rules) e)
      | inr e ↦ absurd
          (c.is_empty.ensures.some_columns (search rules) e)
    ]

pub returns-clause-fills : goal.returns-clause-fills
returns-clause-fills g c =
    let self = c.args.self in
    c.in_ok-results.ensures.fills (record {
      rows = self.rows;
      len = self.len;
      tile_cost = non_zero_usize_get self.tile_cost;
      workers = non_zero_usize_get self.workers;
      whole = self.whole;
    }) refl
    c.in_ok-shares.ensures.sizes

pub returns-clause-serial : goal.returns-clause-serial
returns-clause-serial g c one r l =
    let serial = c.is_serial.ensures.1 one in
    let not : c.is_serial.result ≡ false = search rules in absurd (true≢false (sym serial ∙ not))

pub returns-clause-empty : goal.returns-clause-empty
returns-clause-empty g c none =
    elim none [
      | inl e ↦ absurd (c.is_empty.ensures.some_rows (search rules) e)
      | inr e ↦ absurd
          (c.is_empty.ensures.some_columns (search rules) e)
    ]
