-- The list is cut before one of its parts.
use Rattle.parallel_row.proofs.{◌∙◌, back_accepted, both_changed, front_accepted}
use Rattle.parallel_row.proofs.row.+row.Goals as goal

pub in_row-one_beside-requires-clause-first : goal.in_row-one_beside-requires-clause-first
in_row-one_beside-requires-clause-first g t c κs within =
    let middle = c.middle_of-middle.ensures in
    let cut = c.split_at_mut-first.ensures in
    front_accepted g.F.Fn c.args.op.now _ c.args.begin _ c.args.end _ _ _ c.requires cut.value
    (cut.front_len ∙ c.length_between-len.ensures) middle.from middle.below

pub in_row-one_beside-requires-clause-rest : goal.in_row-one_beside-requires-clause-rest
in_row-one_beside-requires-clause-rest g t c κs within =
    let middle = c.middle_of-middle.ensures in
    let cut = c.split_at_mut-first.ensures in
    back_accepted g.F.Fn c.args.op.now _ c.args.begin _ c.args.end _ _ _ c.requires cut.value
    (cut.front_len ∙ c.length_between-len.ensures) middle.from middle.below

pub in_row-returns : goal.in_row-returns
in_row-returns g t c =
    let middle = c.middle_of-middle.ensures in
    let cut = c.split_at_mut-first.ensures in
    both_changed g.F.Fn c.args.op.now _ c.args.begin _ c.args.end _ _ _ c.requires cut.value
    (cut.front_len ∙ c.length_between-len.ensures) middle.from middle.below _ _
    c.one_beside.ensures.first c.one_beside.ensures.rest
