-- Each word of a line `mix` writes its number.
use Rattle.shapes_command.proofs.{◌≡◌, ◌-◌, ◌^◌, List, ℕ, arith, codes, digits_value, IsNumberUpTo, has_form, of_word}
use Rattle.shapes_command.proofs.request.mix.Goals as goal

pub returns-in_ok-number-in-len5 : goal.returns-in_ok-number-in-len5
returns-in_ok-number-in-len5 c =
    let words = c.args.words.now in
    let form = has_form words 5 c.name-item.result c.as_str.result.now (codes "mix") (omega arith)
    (omega arith) c.name-item.is c.as_str.ensures.value c.if-eq.ensures in
    let seed = of_word words 1 c.seed-item.result c.deref.result.now c.seed-item.is c.deref.ensures
    (λ (t : List ℕ). IsNumberUpTo (2 ^ 64 - 1) t
    × (c.in_ok-number_of_64_bits-in-len5.field-0 ≡ digits_value 10 t))
    (omega arith) c.in_ok-number_of_64_bits-in-len5.ensures in
    let line =
    of_word words 2 c.line-item.result c.deref-in-len5.result.now c.line-item.is
    c.deref-in-len5.ensures
    (λ (t : List ℕ). IsNumberUpTo (2 ^ 32 - 1) t
    × (c.in_ok-number_of_32_bits-in-len5.field-0 ≡ digits_value 10 t))
    (omega arith) c.in_ok-number_of_32_bits-in-len5.ensures in
    let column =
    of_word words 3 c.column-item.result c.deref-in-len5-2.result.now c.column-item.is
    c.deref-in-len5-2.ensures
    (λ (t : List ℕ). IsNumberUpTo (2 ^ 32 - 1) t
    × (c.in_ok-number_of_32_bits-in-len5-2.field-0 ≡ digits_value 10 t))
    (omega arith) c.in_ok-number_of_32_bits-in-len5-2.ensures in
    let len =
    of_word words 4 c.len-item.result c.deref-in-len5-3.result.now c.len-item.is
    c.deref-in-len5-3.ensures
    (λ (t : List ℕ). IsNumberUpTo (2 ^ 64 - 1) t
    × (c.in_ok-number-in-len5.field-0 ≡ digits_value 10 t))
    (omega arith) c.in_ok-number-in-len5.ensures in
    ((form, seed.0, line.0, column.0, len.0), seed.1, line.1, column.1, len.1)
