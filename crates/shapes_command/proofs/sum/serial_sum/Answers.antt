-- Serially the fold is one chain, whose sum does not wrap around.
use Rattle.shapes_command.proofs.{rules, ◌≡◌, ◌+◌, Bor, String, Global, arith, sum_by, sym, subst, map, ap, length, All, IfOk-weaker, YieldsList-from_slice, one_path, IsItem, number_of, drained}
use Rattle.shapes_command.proofs.{chain_sum}
use Rattle.parallel_bridge.proofs.OverLists.{in_one}
use Rattle.parallel_bridge.specs.declared.path.Path.TheVariants.{Serial}
use Rattle.shapes_command.proofs.sum.serial_sum.Goals as goal

pub returns-clause-sum : goal.returns-clause-sum
returns-clause-sum g c =
    IfOk-weaker c.fold.result _ _
    (λ r h.
    let items = c.args.items.now in
    let v : Bor (String Global) → String Global = λ word. word.now in
    let same : map v h.0 ≡ items =
    drained h.0 h.1 (YieldsList-from_slice {s = c.iter.result} items (search rules)) in
    let segment = in_one _ _ _ _ h.2.0 h.0 r h.2.2.1 (one_path h.2.0 Serial h.2.1) in
    let begins : segment.0 ≡ c.args.identity = search rules in
    let good : All IsItem (map v h.0) = subst (All IsItem) (sym same) c.requires.items.1 in
    let few = ap length same in
    let added : r ≡ segment.0 + sum_by number_of (map v h.0) =
    chain_sum v number_of IsItem 1000000 _ (λ item is. is.1)
    (λ a item b is stepped. search rules) h.0 good segment.0 r
    (omega (arith, begins, few, c.requires.identity, c.requires.items.0)) segment.2 in
    omega (arith, added, begins, ap (sum_by number_of) same))
    c.fold.ensures.along
