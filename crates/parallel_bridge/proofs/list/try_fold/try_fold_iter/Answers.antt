-- The closure may be called with each item that comes and what is folded so far; a turn is one step
-- more, or the error stands.
use Rattle.parallel_bridge.proofs.{MayCome, rules, ◌∷◌, [], Ok, may_along, next_has, tried_along, try_continues, try_rests}
use Rattle.parallel_bridge.specs.Comes.{ComesSerially, OkStep}
use Rattle.parallel_bridge.proofs.list.try_fold.try_fold_iter.Goals as goal

pub loop-item-init : goal.loop-item-init
loop-item-init g c = try_rests (goal.F-post g c.args.fold_op.now) (Ok c.identity.result)

pub try_fold_step-control-requires : goal.try_fold_step-control-requires
try_fold_step-control-requires g c =
    let steps = g.I.Iterator.next_gives in let may = MayCome steps c.args.iter in
    let identity = goal.ID-post g c.args.identity.now in
    let step = goal.F-post g c.args.fold_op.now in let xs = c.loop-item.yielded in
    tried_along identity step may (λ v. goal.F-pre g c.args.fold_op.now v c.in-Some.item) xs
    c.identity.result c.loop-item.control
    (may_along steps c.args.iter xs c.loop-item.item-iterator (search rules))
    c.identity.ensures c.loop-item.invariant
    (next_has steps (λ (x : g.row.I-Item.Denot). (v : g.row.R.Denot)
    → ComesSerially identity (OkStep step) may v → goal.F-pre g c.args.fold_op.now v x)
    c.args.iter c.loop-item.item-iterator c.next.new.self xs c.in-Some.item
    c.requires.fold_accepts (search rules) (search rules))

pub loop-item-preserved : goal.loop-item-preserved
loop-item-preserved g c = try_continues (goal.F-post g c.args.fold_op.now) (Ok c.identity.result)
    c.loop-item.control c.try_fold_step-control.result c.loop-item.yielded
    (c.in-Some.item ∷ []) c.loop-item.invariant c.try_fold_step-control.ensures
