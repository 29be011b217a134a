-- No stretch, one stretch more, and all of them.
use Rattle.commonware_parallel.proofs.{rules, ◌≡◌, ◌*◌, All, sym, subst, ◌∙◌, map-id, Follows, IsThere, nothing_so_far, next_so_far, all_so_far}
use Rattle.std.proofs.lemmas.Iterator.Adapters.{YieldsList-from_vec}
use Rattle.std.proofs.lemmas.Iterator.Consumers.{YieldsList-end}
use Rattle.commonware_parallel.proofs.tiles.merged.merge_ordered.Goals as goal

pub loop-part-init : goal.loop-part-init
loop-part-init g c =
    rw c.in_ok-values.ensures.items (nothing_so_far _ _ _ c.requires.some_columns)

pub loop-part-preserved : goal.loop-part-preserved
loop-part-preserved g c =
    next_so_far _ _ _ c.in-Some.part c.loop-part.yielded c.loop-part.values.items _
    c.loop-part.held _ c.joined-value.result c.loop-part.invariant c.joined-value.ensures
    c.in_ok-held.ensures.placed

pub returns-clause-values : goal.returns-clause-values
returns-clause-values g c =
    let end = YieldsList-end
    (YieldsList-from_vec {s = c.into_iter-part-iterator.result} c.args.parts.items (search rules)
    (search rules)) c.loop-part.yielded c.loop-part.part-iterator c.loop-part.yielded_by
    c.next.result c.next.new.self c.in-None.is c.next.ensures.steps in
    let all : c.args.parts.items ≡ c.loop-part.yielded =
    sym end.0 ∙ map-id c.loop-part.yielded in
    rw all (all_so_far _ _ _ c.loop-part.yielded c.loop-part.values.items c.loop-part.held
    c.loop-part.invariant (subst (All (IsThere c.args.rows c.args.len)) all c.requires.there)
    (subst (Follows c.args.len 0 (c.args.rows * c.args.len)) all c.requires.follow))
