-- The words from the fourth on are the items of `fold serial`.
use Rattle.shapes_command.proofs.{◌≡◌, ◌≤◌, List, ℕ, length, refl, subst, arith, codes, digits_value, IsNumberUpTo, AreItems, is_text, of_word, rest_from}
use Rattle.shapes_command.proofs.request.fold.Goals as goal

pub returns-in_ok-number-in-len3-up : goal.returns-in_ok-number-in-len3-up
returns-in_ok-number-in-len3-up c =
    let words = c.args.words.now in
    let some : 3 ≤ length words = omega arith in
    let name = is_text words 0 c.name-item.result c.as_str.result.now (codes "fold")
    (omega arith) c.name-item.is c.as_str.ensures.value c.if-eq.ensures in
    let through = is_text words 1 c.through-item.result c.as_str-then-eq.result.now (codes "serial")
    (omega arith) c.through-item.is c.as_str-then-eq.ensures.value c.if-eq-2.ensures in
    let identity =
    of_word words 2 c.identity-item.result c.deref.result.now c.identity-item.is c.deref.ensures
    (λ (t : List ℕ). IsNumberUpTo 1000000 t
    × (c.in_ok-number-in-len3-up.field-0 ≡ digits_value 10 t))
    (omega arith) c.in_ok-number-in-len3-up.ensures in
    let rest = rest_from words 3 in (
      (some, name, through, identity.0, subst AreItems rest (c.if-are_items.ensures.0 refl)),
      identity.1,
      rest,
    )
