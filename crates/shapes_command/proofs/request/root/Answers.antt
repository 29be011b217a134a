-- The words after the name are the items of `root`.
use Rattle.shapes_command.proofs.{◌≤◌, length, refl, subst, arith, codes, AreItems, is_text, rest_from}
use Rattle.shapes_command.proofs.request.root.Goals as goal

pub returns-in-len1-up : goal.returns-in-len1-up
returns-in-len1-up c =
    let words = c.args.words.now in
    let some : 1 ≤ length words = omega arith in
    let name = is_text words 0 c.name-item.result c.as_str.result.now (codes "root")
    (omega arith) c.name-item.is c.as_str.ensures.value c.if-eq.ensures in
    let rest = rest_from words 1 in (
      (some, name, subst AreItems rest (c.if-are_items.ensures.0 refl)),
      rest,
    )
