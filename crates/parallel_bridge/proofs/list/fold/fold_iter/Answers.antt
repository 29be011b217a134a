-- The closure may be called with each item that comes and what is folded so far, and one turn is
-- one step more of the chain over the items that came.
use Rattle.parallel_bridge.proofs.{MayCome, rules, chain_push, comes_along, may_along, next_has}
use Rattle.parallel_bridge.specs.Comes.{ComesSerially}
use Rattle.parallel_bridge.proofs.list.fold.fold_iter.Goals as goal

pub fold_op-value-requires : goal.fold_op-value-requires
fold_op-value-requires g c =
    let steps = g.I.Iterator.next_gives in let may = MayCome steps c.args.iter in
    let identity = goal.ID-post g c.args.identity.now in
    let step = goal.F-post g c.args.fold_op.now in let xs = c.loop-item.yielded in
    next_has steps (λ (x : g.row.I-Item.Denot). (v : g.row.R.Denot)
    → ComesSerially identity step may v → goal.F-pre g c.args.fold_op.now v x)
    c.args.iter c.loop-item.item-iterator c.next.new.self xs c.in-Some.item
    c.requires.fold_accepts (search rules) (search rules) _
    (comes_along identity step may xs c.identity-value.result c.loop-item.value
    (may_along steps c.args.iter xs c.loop-item.item-iterator (search rules))
    c.identity-value.ensures c.loop-item.invariant)

pub loop-item-preserved : goal.loop-item-preserved
loop-item-preserved g c = chain_push (goal.F-post g c.args.fold_op.now) _ c.loop-item.yielded _ _ _
    c.loop-item.invariant (search rules)
