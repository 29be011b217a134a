-- The list is cut before one of its parts.
use Rattle.parallel_row.proofs.{◌∙◌, back_accepted, both_changed, front_accepted}
use Rattle.parallel_row.proofs.row.+groups.Goals as goal

pub by_groups-group_beside-requires-clause-first : goal.by_groups-group_beside-requires-clause-first
by_groups-group_beside-requires-clause-first g t c κs within =
    let middle = c.middle_of-middle.ensures in
    let cut = c.split_at_mut-first.ensures in
    front_accepted g.F.Fn c.args.op.now _ c.args.begin _ c.args.end _ _ _ c.requires.accepts
    cut.value (cut.front_len ∙ c.length_between-len.ensures) middle.from middle.below

pub by_groups-group_beside-requires-clause-rest : goal.by_groups-group_beside-requires-clause-rest
by_groups-group_beside-requires-clause-rest g t c κs within =
    let middle = c.middle_of-middle.ensures in
    let cut = c.split_at_mut-first.ensures in
    back_accepted g.F.Fn c.args.op.now _ c.args.begin _ c.args.end _ _ _ c.requires.accepts
    cut.value (cut.front_len ∙ c.length_between-len.ensures) middle.from middle.below

pub by_groups-returns : goal.by_groups-returns
by_groups-returns g t c =
    let middle = c.middle_of-middle.ensures in
    let cut = c.split_at_mut-first.ensures in
    both_changed g.F.Fn c.args.op.now _ c.args.begin _ c.args.end _ _ _ c.requires.accepts cut.value
    (cut.front_len ∙ c.length_between-len.ensures) middle.from middle.below _ _
    c.group_beside.ensures.first c.group_beside.ensures.rest
