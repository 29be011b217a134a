-- The level's own sibling leads on, and from the highest level no step is left.
use Rattle.std.proofs.Common.{◌≡◌, ◌≤◌, ◌+◌, ◌-◌, ◌/◌, [], arith, sym, subst, ◌∙◌, length, Some}
use Rattle.merkle_tree.specs.Merkle.{level_above, levels_of, lowest, next_level, node_at, node_digest, one_up}
use Rattle.merkle_tree.proofs.Trees.{height, Leads, leads_end, leads_more, level_items}
use Rattle.merkle_tree.proofs.tree.proof_in.Goals as goal

pub loop-number-preserved : goal.loop-number-preserved
loop-number-preserved c =
    let leaves = lowest (levels_of c.args.levels.now) in
    let place = c.loop-number.place in
    let all = height c.args.levels.now in
    let here = level_items c.args.levels.now _ _ c.requires.tree (omega arith)
    c.index-levels-number.is in
    let went = subst (λ xs. one_up node_digest (length xs) place (node_at xs place) c.sibling.result
    ≡ Some (node_at (next_level node_digest xs) (place / 2))) (c.deref.ensures.value ∙ here)
    c.sibling.ensures in
    let led = leads_more node_digest [] leaves c.args.index c.loop-number.number place _ _
    c.loop-number.invariant (c.requires.tree.several c.loop-number.number (omega arith)) went in
    subst (Leads node_digest [] leaves c.args.index (c.loop-number.number + 1) (place / 2))
    (sym c.in_ok-push.ensures.items) led

pub returns-clause-leads : goal.returns-clause-leads
returns-clause-leads c =
    let leaves = lowest (levels_of c.args.levels.now) in
    let all = height c.args.levels.now in
    let last : length (levels_of c.args.levels.now) - 1 ≡ c.loop-number.number =
    omega (arith, all, c.loop-number-test.false, c.loop-number.auto.number-end) in
    leads_end node_digest [] leaves c.args.index c.loop-number.number
    c.loop-number.place _ c.loop-number.invariant
    (subst (λ n. length (level_above node_digest n leaves) ≤ 1) last c.requires.tree.top)
