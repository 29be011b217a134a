-- Each word of a line `grid` writes its number.
use Rattle.shapes_command.proofs.{◌≡◌, ◌-◌, ◌^◌, List, ℕ, arith, codes, non_zero_usize_get, digits_value, IsNumberUpTo, IsCountUpTo, has_form, of_word}
use Rattle.shapes_command.proofs.request.grid.Goals as goal

pub returns-in_ok-count-in-len5-2 : goal.returns-in_ok-count-in-len5-2
returns-in_ok-count-in-len5-2 c =
    let words = c.args.words.now in
    let form = has_form words 5 c.name-item.result c.as_str.result.now (codes "grid") (omega arith)
    (omega arith) c.name-item.is c.as_str.ensures.value c.if-eq.ensures in
    let rows = of_word words 1 c.rows-item.result c.deref.result.now c.rows-item.is c.deref.ensures
    (λ (t : List ℕ). IsNumberUpTo (2 ^ 64 - 1) t
    × (c.in_ok-number-in-len5.field-0 ≡ digits_value 10 t))
    (omega arith) c.in_ok-number-in-len5.ensures in
    let cost =
    of_word words 2 c.cost-item.result c.deref-in-len5.result.now c.cost-item.is
    c.deref-in-len5.ensures
    (λ (t : List ℕ). IsCountUpTo (2 ^ 64 - 1) t
    × (non_zero_usize_get c.in_ok-count-in-len5.field-0 ≡ digits_value 10 t))
    (omega arith) c.in_ok-count-in-len5.ensures in
    let len =
    of_word words 3 c.len-item.result c.deref-in-len5-2.result.now c.len-item.is
    c.deref-in-len5-2.ensures
    (λ (t : List ℕ). IsNumberUpTo (2 ^ 64 - 1) t
    × (c.in_ok-number-in-len5-2.field-0 ≡ digits_value 10 t))
    (omega arith) c.in_ok-number-in-len5-2.ensures in
    let workers =
    of_word words 4 c.workers-item.result c.deref-in-len5-3.result.now c.workers-item.is
    c.deref-in-len5-3.ensures
    (λ (t : List ℕ). IsCountUpTo (2 ^ 64 - 1) t
    × (non_zero_usize_get c.in_ok-count-in-len5-2.field-0 ≡ digits_value 10 t))
    (omega arith) c.in_ok-count-in-len5-2.ensures in
    ((form, rows.0, cost.0, len.0, workers.0), rows.1, cost.1, len.1, workers.1)
