-- The whole block is the window's slots.
use Rattle.parallel_bridge.proofs.{rules, sym, subst, ◌∙◌, IsRow, part, whole_row}
use Rattle.parallel_bridge.proofs.window.block.Block.from_vec.Goals as goal

pub invariant_of-window : goal.invariant_of-window
invariant_of-window g c =
    let v = c.args.vec in let row = c.open-cells.ensures.row in let cells = c.open-cells.result.1 in
    let whole = whole_row v.cap c.len-len.result v.items (row.1 ∙ sym row.0) row.2
    (c.len-len.ensures ∙ v.ok.0) (search rules) in
    subst (λ k. IsRow cells.at c.open-cells.result.0.ptr cells.slots k 0 c.len-len.result)
    (sym c.capacity-room.ensures) whole.0

pub returns : goal.returns
returns g c =
    let v = c.args.vec in let row = c.open-cells.ensures.row in
    let whole = whole_row v.cap c.len-len.result v.items (row.1 ∙ sym row.0) row.2
    (c.len-len.ensures ∙ v.ok.0) (search rules) in
    (λ j. part c.open-cells.result.0.ptr (c.capacity-room.ensures j) 0 (whole.1 j))
