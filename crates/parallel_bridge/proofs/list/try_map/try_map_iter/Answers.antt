-- One turn is one value more, or the error.
use Rattle.parallel_bridge.proofs.{rules, ◌∷◌, [], None, ended, next_has, behind_append, behind_rests}
use Rattle.parallel_bridge.proofs.list.try_map.try_map_iter.Goals as goal

pub loop-item-init : goal.loop-item-init
loop-item-init g c = behind_rests (goal.F-post g c.args.map_op.now)
    (ended c.with_places-values.result.items None)

pub try_map_step-requires : goal.try_map_step-requires
try_map_step-requires g c = next_has g.I.Iterator.next_gives
    (λ (x : g.row.I-Item.Denot). goal.F-pre g c.args.map_op.now x) c.args.iter
    c.loop-item.item-iterator c.next.new.self c.loop-item.yielded c.in-Some.item c.requires.accepts
    (search rules) (search rules)

pub loop-item-preserved : goal.loop-item-preserved
loop-item-preserved g c = behind_append (goal.F-post g c.args.map_op.now)
    (ended c.with_places-values.result.items None)
    (ended c.loop-item.values.items c.loop-item.failed)
    (ended c.try_map_step.new.values.items c.try_map_step.new.failed) c.loop-item.yielded
    (c.in-Some.item ∷ []) c.loop-item.invariant c.in_ok-try_map_step.ensures.gives
