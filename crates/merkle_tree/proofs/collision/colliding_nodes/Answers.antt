-- Where two nodes differ and the nodes above them don't, the pairs below are a collision.
use Rattle.std.proofs.Common.{◌≡◌, ◌≢◌, ◌≤◌, ◌<◌, ◌-◌, ◌/◌, [], arith, sym, subst, ◌∙◌, ap, length, get_or, None, Some, rules}
use Rattle.merkle_tree.specs.Merkle.{level_above, levels_of, lowest, next_level, node_digest, one_up}
use Rattle.merkle_tree.proofs.ClimbSteps.{leads_nowhere, too_few}
use Rattle.merkle_tree.proofs.Levels.{level_next, length-next_level}
use Rattle.merkle_tree.proofs.Trees.{height}
use Rattle.merkle_tree.proofs.CollidingNodes.{other_leaf, other_root, other_above, nowhere_is_no_root}
use Rattle.merkle_tree.proofs.collision.colliding_nodes.Goals as goal

pub loop-number-init : goal.loop-number-init
loop-number-init c = other_leaf node_digest [] _ _ _ _ c.requires.inside c.requires.other

pub returns-then-proof-number : goal.returns-then-proof-number
returns-then-proof-number c =
    let leaves = lowest (levels_of c.args.levels.now) in
    let all = height c.args.levels.now in
    let several : 2 ≤ length (level_above node_digest c.loop-number.number leaves) =
    c.requires.tree.several c.loop-number.number (omega arith) in
    let top = length (levels_of c.args.levels.now) - 1 in
    nowhere_is_no_root node_digest [] leaves c.args.index c.args.digest c.args.proof.now top
    (omega (arith, c.requires.inside)) c.requires.tree.top
    (too_few node_digest c.args.proof.now c.loop-number.number _ c.loop-number.place
    c.loop-number.reached
    _ (omega arith) (omega (arith, several)) c.loop-number.invariant.onward)

pub returns-in_err-above : goal.returns-in_err-above
returns-in_err-above c =
    let leaves = lowest (levels_of c.args.levels.now) in
    let all = height c.args.levels.now in
    let here = c.level_at-level.ensures in
    let several : 2 ≤ length (level_above node_digest c.loop-number.number leaves) =
    c.requires.tree.several c.loop-number.number (omega arith) in
    let top = length (levels_of c.args.levels.now) - 1 in
    let refused = subst (λ xs. None ≡ one_up node_digest (length xs) c.loop-number.place
    c.loop-number.reached
    (get_or c.args.proof.now c.loop-number.number None)) here c.in_err-above.ensures in
    rw c.from_residual.ensures
    (nowhere_is_no_root node_digest [] leaves c.args.index c.args.digest c.args.proof.now top
    (omega (arith, c.requires.inside)) c.requires.tree.top
    (leads_nowhere node_digest c.args.proof.now c.loop-number.number _ c.loop-number.place
    c.loop-number.reached
    _ (omega arith) (omega (arith, several)) (sym refused) c.loop-number.invariant.onward))

pub returns : goal.returns
returns c =
    let leaves = lowest (levels_of c.args.levels.now) in
    let all = height c.args.levels.now in
    let last : length (levels_of c.args.levels.now) - 1 ≡ c.loop-number.number =
    omega (arith, all, c.loop-number-test.false, c.loop-number.auto.number-end) in
    other_root node_digest [] leaves c.args.index c.args.digest c.args.proof.now
    c.loop-number.number
    c.loop-number.place c.loop-number.reached c.loop-number.invariant
    (subst (λ n. length (level_above node_digest n leaves) ≤ 1) last c.requires.tree.top)
    (omega (arith, c.requires.inside))

pub bounds-next-place : goal.bounds-next-place
bounds-next-place c =
    let leaves = lowest (levels_of c.args.levels.now) in
    let here = level_above node_digest c.loop-number.number leaves in
    let inside : c.loop-number.place < length here = c.loop-number.invariant.inside in
    let count : length c.level_at-next.result.now ≡ length (next_level node_digest here) =
    ap length (c.level_at-next.ensures ∙ level_next node_digest c.loop-number.number leaves) in
    omega (arith, inside, count, length-next_level node_digest here)

pub pairs-requires-clause-meet : goal.pairs-requires-clause-meet
pairs-requires-clause-meet c =
    let leaves = lowest (levels_of c.args.levels.now) in
    let level = c.level_at-level.result.now in
    let above = c.in_ok-above.above in
    let next : c.level_at-next.result.now ≡ next_level node_digest level =
    c.level_at-next.ensures ∙ level_next node_digest c.loop-number.number leaves
    ∙ ap (next_level node_digest) (sym c.level_at-level.ensures) in
    let same : above ≡ get_or c.level_at-next.result.now (c.loop-number.place / 2) [] =
    search rules in (
      length level,
      above,
      sym c.in_ok-above.ensures,
      c.sibling-own.ensures
          ∙ ap Some (sym (same ∙ ap (λ xs. get_or xs (c.loop-number.place / 2) []) next)),
    )

pub loop-number-preserved : goal.loop-number-preserved
loop-number-preserved c =
    let leaves = lowest (levels_of c.args.levels.now) in
    let all = height c.args.levels.now in
    let place = c.loop-number.place in
    let above = c.in_ok-above.above in
    let went = subst (λ xs. Some above ≡ one_up node_digest (length xs) place c.loop-number.reached
    (get_or c.args.proof.now c.loop-number.number None)) c.level_at-level.ensures
    c.in_ok-above.ensures in
    let apart : above ≢ get_or c.level_at-next.result.now (place / 2) [] = search rules in
    other_above node_digest [] leaves c.args.index c.args.digest c.args.proof.now
    c.loop-number.number
    place c.loop-number.reached above c.loop-number.invariant (omega arith)
    (c.requires.tree.several c.loop-number.number (omega arith)) (sym went)
    (subst (λ xs. above ≢ get_or xs (place / 2) []) c.level_at-next.ensures apart)
