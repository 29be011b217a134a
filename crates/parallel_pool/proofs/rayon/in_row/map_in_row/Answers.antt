-- A place for each item, and a result in each place.
use Rattle.std.proofs.Common.{rules, arith, refl, ◌∙◌}
use Rattle.parallel_pool.proofs.{answered, waiting_accepted}
use Rattle.parallel_pool.proofs.rayon.in_row.map_in_row.Goals as goal

pub answer_all-requires-after_bounds : goal.answer_all-requires-after_bounds
answer_all-requires-after_bounds g c κs within =
    waiting_accepted g.F.Fn c.args.op.now c.args.items.items c.as_mut_slice.result.now
    (c.as_mut_slice.ensures.value ∙ c.in_ok-places.ensures) c.requires

pub returns-clause-len : goal.returns-clause-len
returns-clause-len g c =
    let all = answered g.F.Fn c.args.op.now c.args.items.items c.answers_of.result.items
    c.as_mut_slice.result.now c.in_ok-places.places.items c.answer_all.new.places
    c.in_ok-places.places.len (c.as_mut_slice.ensures.value ∙ c.in_ok-places.ensures)
    (search rules) c.as_mut_slice.ensures.len c.answer_all.ensures
    c.answers_of.ensures in
    omega (arith, all.0, c.answers_of.result.ok.0, c.args.items.ok.0)

pub returns-clause-each : goal.returns-clause-each
returns-clause-each g c i d l =
    let all = answered g.F.Fn c.args.op.now c.args.items.items c.answers_of.result.items
    c.as_mut_slice.result.now c.in_ok-places.places.items c.answer_all.new.places
    c.in_ok-places.places.len (c.as_mut_slice.ensures.value ∙ c.in_ok-places.ensures)
    (search rules) c.as_mut_slice.ensures.len c.answer_all.ensures
    c.answers_of.ensures in
    (refl, all.1 i d l)
