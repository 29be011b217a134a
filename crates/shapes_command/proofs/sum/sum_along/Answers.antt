-- The fold goes along the shape for two threads, and nothing wraps around.
use Rattle.shapes_command.proofs.{rules, ◌≡◌, ◌≤◌, ◌<◌, ◌^◌, ◌∙◌, Bor, String, Global, arith, sym, subst, map, ap, length, All, length-map, IfOk-weaker, YieldsList-from_slice, Shape, cutdepth}
use Rattle.shapes_command.proofs.{Parallel, SumsAlong, IsItem, number_of, drained, explored_in_parallel, along_shape, along_plain, depth_of_two, most_along}
use Rattle.shapes_command.proofs.sum.sum_along.Goals as goal

pub returns-clause-sum : goal.returns-clause-sum
returns-clause-sum g c =
    IfOk-weaker c.fold.result _ _
    (λ r h.
    let items = c.args.items.now in
    let explorer = c.args.explorer.now in
    let identity = c.args.identity in
    let v : Bor (String Global) → String Global = λ word. word.now in
    let same : map v h.0 ≡ items =
    drained h.0 h.1 (YieldsList-from_slice {s = c.iter.result} items (search rules)) in
    let parallel : h.2.0 ≡ Parallel = explored_in_parallel explorer _
    (length h.0) h.2.0 c.requires.over_two h.2.1 in
    let along = along_shape _ _ _ _ h.2.0 h.0 r parallel h.2.2.1 in
    let good : All IsItem (map v h.0) = subst (All IsItem) (sym same) c.requires.items.1 in
    let few : length h.0 ≤ 1000 =
    omega (arith, length-map h.0 v, ap length same, c.requires.items.0) in
    let threads : explorer.threads ≡ 2 = ap (λ e. e.threads) c.requires.over_two in
    let depth : cutdepth explorer.threads ≡ 2 = ap cutdepth threads ∙ depth_of_two in
    let fits : most_along (cutdepth explorer.threads) < 2 ^ 64 =
    subst (λ d. most_along d < 2 ^ 64) (sym depth) (omega arith) in
    let plain = along_plain v number_of IsItem (λ item is. is.1) _ _ _ identity c.requires.identity
    (λ e k. search rules) (λ a item b is k. search rules) (λ a b s k. search rules)
    (cutdepth explorer.threads) h.0 good few fits r along in
    let two : SumsAlong identity (Shape (cutdepth 2) (map v h.0)) r = subst
    (λ n. SumsAlong identity (Shape (cutdepth n) (map v h.0)) r) threads plain.0 in
    subst (λ xs. SumsAlong identity (Shape (cutdepth 2) xs) r) same two)
    c.fold.ensures.along
