-- Each level that is pushed is the next of those so far, and the last one is the highest.
use Rattle.std.proofs.Common.{◌≡◌, arith, ap, length, ◌∙◌}
use Rattle.merkle_tree.specs.Merkle.{next_level, node_digest}
use Rattle.merkle_tree.proofs.TreeConstruction.{begun, pushed_last, pushed_level, pushed_next}
use Rattle.merkle_tree.proofs.Levels.{length-next_level}
use Rattle.merkle_tree.proofs.tree.Tree.over.Goals as goal

pub levels-init : goal.levels-init
levels-init g c =
    let all = begun c.args.leaves.items c.new-levels.result.items c.new-levels.ensures.items in
    record { so_far = all.0; here = all.1 }

pub levels-preserved : goal.levels-preserved
levels-preserved g c =
    let above : c.in_ok-next.next.items ≡ next_level node_digest c.levels.level.items =
    c.in_ok-next.ensures.next ∙ ap (next_level node_digest) c.deref.ensures.value in
    record {
      so_far = pushed_level c.args.leaves.items c.levels.levels.items _ c.levels.level
          c.in_ok-push.ensures.items c.levels.invariant.so_far c.levels.invariant.here
          (omega arith);
      here = pushed_next c.args.leaves.items c.levels.levels.items _ c.levels.level
          c.in_ok-push.ensures.items c.levels.invariant.so_far c.levels.invariant.here _ above;
    }

pub levels-smaller : goal.levels-smaller
levels-smaller g c =
    let above : c.in_ok-next.next.items ≡ next_level node_digest c.levels.level.items =
    c.in_ok-next.ensures.next ∙ ap (next_level node_digest) c.deref.ensures.value in
    omega (arith, ap length above, length-next_level node_digest c.levels.level.items)

pub invariant_of-result : goal.invariant_of-result
invariant_of-result g c =
    let all = pushed_last c.args.leaves.items c.levels.levels.items _ c.levels.level
    c.in_ok-push-2.ensures.items c.levels.invariant.so_far c.levels.invariant.here (omega arith) in
    all.0

pub returns-clause-tree : goal.returns-clause-tree
returns-clause-tree g c =
    let all = pushed_last c.args.leaves.items c.levels.levels.items _ c.levels.level
    c.in_ok-push-2.ensures.items c.levels.invariant.so_far c.levels.invariant.here (omega arith) in
    all.1
