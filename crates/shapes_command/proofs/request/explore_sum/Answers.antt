-- The two words are those of the line `explore sum`.
use Rattle.shapes_command.proofs.{arith, codes, has_form, is_text}
use Rattle.shapes_command.proofs.request.explore_sum.Goals as goal

pub returns-in-len2 : goal.returns-in-len2
returns-in-len2 c =
    let words = c.args.words.now in
    let form = has_form words 2 c.name-item.result c.as_str.result.now (codes "explore")
    (omega arith) (omega arith) c.name-item.is c.as_str.ensures.value c.if-eq.ensures in
    let what = is_text words 1 c.what-item.result c.as_str-then-eq.result.now (codes "sum")
    (omega arith) c.what-item.is c.as_str-then-eq.ensures.value c.if-eq-2.ensures in
    (form, what)
