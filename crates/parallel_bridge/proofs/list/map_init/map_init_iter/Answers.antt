-- One turn is one step more of the states, from the fresh one.
use Rattle.parallel_bridge.proofs.{rules, ◌≡◌, ◌∷◌, ◌++◌, [], refl, sym, subst, append-nil, append_assoc, ap, ◌∙◌, MutBor, MapStep, StatesFrom, next_has}
use Rattle.parallel_bridge.proofs.list.map_init.map_init_iter.Goals as goal

pub map_op-requires : goal.map_op-requires
map_op-requires g c = next_has g.I.Iterator.next_gives
    (λ (x : g.row.I-Item.Denot). (p : MutBor g.row.S.Denot) → goal.F-pre g c.args.map_op.now p x)
    c.args.iter c.loop-item.item-iterator c.next.new.self c.loop-item.yielded c.in-Some.item
    c.requires.map_accepts (search rules) (search rules) _

pub loop-item-preserved : goal.loop-item-preserved
loop-item-preserved g c more zs h =
    let y = c.map_op.result in let step = MapStep (goal.F-post g c.args.map_op.now) in
    let before = c.loop-item.answers.items in let item = c.in-Some.item in
    let s = c.init-state.result in
    let more_answers : c.push.new.self.items ++ zs ≡ before ++ (y ∷ zs) =
    ap (λ l. l ++ zs) (search rules) ∙ append_assoc before (y ∷ []) zs in
    subst (λ l. StatesFrom step s l (c.push.new.self.items ++ zs))
    (sym (append_assoc c.loop-item.yielded (item ∷ []) more))
    (subst (λ l. StatesFrom step s (c.loop-item.yielded ++ (item ∷ more)) l)
    (sym more_answers) (c.loop-item.invariant (item ∷ more) (y ∷ zs) (_, search rules, h)))

pub returns-clause-one_state : goal.returns-clause-one_state
returns-clause-one_state g c =
    let step = MapStep (goal.F-post g c.args.map_op.now) in let s = c.init-state.result in
    let xs = c.loop-item.yielded in let ys = c.loop-item.answers.items in
    let states = subst (λ l. StatesFrom step s l ys) (append-nil xs)
    (subst (StatesFrom step s (xs ++ [])) (append-nil ys) (c.loop-item.invariant [] [] refl)) in
    (xs, search rules, (s, c.init-state.ensures, states))
