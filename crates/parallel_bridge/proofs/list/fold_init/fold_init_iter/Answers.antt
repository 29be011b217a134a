-- The closure may be called with each item that comes and what is folded so far, and one turn is
-- one step more of the chain over the items that came.
use Rattle.parallel_bridge.proofs.{AnyState, MayCome, rules, ◌∷◌, [], refl, sym, subst, append-nil, append_assoc, MutBor, FoldStep, StateChain, comes_along_states, may_along, next_has}
use Rattle.parallel_bridge.specs.Comes.{ComesSerially}
use Rattle.parallel_bridge.proofs.list.fold_init.fold_init_iter.Goals as goal

pub fold_op-value-requires : goal.fold_op-value-requires
fold_op-value-requires g c =
    let steps = g.I.Iterator.next_gives in let may = MayCome steps c.args.iter in
    let identity = goal.ID-post g c.args.identity.now in
    let step = FoldStep (goal.F-post g c.args.fold_op.now) in let xs = c.loop-item.yielded in
    let s = c.init-state.result in let a = c.identity-value.result in
    let chain = subst (λ l. StateChain step s a l c.loop-item.value) (append-nil xs)
    (c.loop-item.invariant [] c.loop-item.value refl) in
    next_has steps (λ (x : g.row.I-Item.Denot). (v : g.row.R.Denot)
    → ComesSerially identity (AnyState step) may v → (p : MutBor g.row.S.Denot)
    → goal.F-pre g c.args.fold_op.now v p x)
    c.args.iter c.loop-item.item-iterator c.next.new.self xs c.in-Some.item
    c.requires.fold_accepts (search rules) (search rules) _
    (comes_along_states identity step may xs s a c.loop-item.value
    (may_along steps c.args.iter xs c.loop-item.item-iterator (search rules))
    c.identity-value.ensures chain) _

pub loop-item-preserved : goal.loop-item-preserved
loop-item-preserved g c more b h =
    let step = FoldStep (goal.F-post g c.args.fold_op.now) in let item = c.in-Some.item in
    subst (λ l. StateChain step c.init-state.result c.identity-value.result l b)
    (sym (append_assoc c.loop-item.yielded (item ∷ []) more))
    (c.loop-item.invariant (item ∷ more) b (_, _, search rules, h))

pub returns : goal.returns
returns g c =
    let step = FoldStep (goal.F-post g c.args.fold_op.now) in let s = c.init-state.result in
    let a = c.identity-value.result in let xs = c.loop-item.yielded in
    let chain = subst (λ l. StateChain step s a l c.loop-item.value) (append-nil xs)
    (c.loop-item.invariant [] c.loop-item.value refl) in
    (xs, search rules, (s, a, c.init-state.ensures, c.identity-value.ensures, chain))
