-- Each word of a line `batches` writes its number.
use Rattle.shapes_command.proofs.{◌≡◌, ◌-◌, ◌^◌, List, ℕ, arith, codes, non_zero_usize_get, digits_value, IsNumberUpTo, IsCountUpTo, has_form, of_word}
use Rattle.shapes_command.proofs.request.batches.Goals as goal

pub returns-in_ok-count-in-len3 : goal.returns-in_ok-count-in-len3
returns-in_ok-count-in-len3 c =
    let words = c.args.words.now in
    let form = has_form words 3 c.name-item.result c.as_str.result.now (codes "batches")
    (omega arith) (omega arith) c.name-item.is c.as_str.ensures.value c.if-eq.ensures in
    let len = of_word words 1 c.len-item.result c.deref.result.now c.len-item.is c.deref.ensures
    (λ (t : List ℕ). IsNumberUpTo (2 ^ 64 - 1) t
    × (c.in_ok-number-in-len3.field-0 ≡ digits_value 10 t))
    (omega arith) c.in_ok-number-in-len3.ensures in
    let ranges =
    of_word words 2 c.ranges-item.result c.deref-in-len3.result.now c.ranges-item.is
    c.deref-in-len3.ensures
    (λ (t : List ℕ). IsCountUpTo 65535 t
    × (non_zero_usize_get c.in_ok-count-in-len3.field-0 ≡ digits_value 10 t))
    (omega arith) c.in_ok-count-in-len3.ensures in
    ((form, len.0, ranges.0), len.1, ranges.1)
