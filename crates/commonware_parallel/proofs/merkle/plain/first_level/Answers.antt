-- One leaf more is the odd one, or the partner of the odd one.
use Rattle.commonware_parallel.proofs.{rules, ap, sym, ◌∙◌, ◌++◌, append-nil, subst, option_to_list, LevelSoFar, level_done, level_odd, level_pair, level_start}
use Rattle.parallel_bridge.proofs.CollectChains.{next_has}
use Rattle.commonware_parallel.proofs.merkle.plain.first_level.Goals as goal
use Rattle.commonware_parallel.proofs.merkle.plain.first_level.Goals.{in-Some-odd-2+in_ok-push, in_default}

pub loop-item-init : goal.loop-item-init
loop-item-init g c = level_start (goal.L-post g c.args.leaf.now) (goal.F-post g c.args.combine.now)
    c.in_ok-nodes.nodes.items c.in_ok-nodes.ensures.items

pub leaf-node-requires : goal.leaf-node-requires
leaf-node-requires g c = next_has g.I.Iterator.next_gives
    (λ (x : g.row.I-Item.Denot). goal.L-pre g c.args.leaf.now x) c.args.items
    c.loop-item.item-iterator c.next.new.self c.loop-item.yielded c.in-Some.item
    c.requires.leaf_accepts (search rules) (search rules)

pub loop-item-preserved-in_ok-push-in-Some-odd : goal.loop-item-preserved-in_ok-push-in-Some-odd
loop-item-preserved-in_ok-push-in-Some-odd g c =
    let leaf = goal.L-post g c.args.leaf.now in let above = goal.F-post g c.args.combine.now in
    level_pair leaf above c.loop-item.yielded c.in-Some.item c.loop-item.nodes.items
    c.push.new.self.items c.in-Some-odd.left c.leaf-node.result c.combine.result
    c.leaf-node.ensures c.combine.ensures c.in_ok-push-in-Some-odd.ensures.items
    (subst (λ o. LevelSoFar leaf above c.loop-item.yielded c.loop-item.nodes.items o)
    c.in-Some-odd.is c.loop-item.invariant)

pub loop-item-preserved : goal.loop-item-preserved
loop-item-preserved g c =
    let leaf = goal.L-post g c.args.leaf.now in let above = goal.F-post g c.args.combine.now in
    level_odd leaf above c.loop-item.yielded c.in-Some.item c.loop-item.nodes.items
    c.leaf-node.result c.leaf-node.ensures
    (subst (λ o. LevelSoFar leaf above c.loop-item.yielded c.loop-item.nodes.items o)
    c.in-None-odd.is c.loop-item.invariant)

pub returns-clause-level : goal.returns-clause-level
returns-clause-level g c = (
  c.loop-item.yielded,
  (c.next.new.self, (c.loop-item.item-iterator, search rules, search rules)),
  level_done (goal.L-post g c.args.leaf.now) (goal.F-post g c.args.combine.now)
      c.loop-item.yielded c.loop-item.nodes.items c.match-odd-2.nodes.items c.loop-item.odd
      (elim c.match-odd-2.branch [
        | in-Some-odd-2+in_ok-push w ↦ ap (λ v. v.items) w.nodes-is ∙ w.in_ok-push.ensures.items
            ∙ ap (λ o. c.loop-item.nodes.items ++ option_to_list o) (sym w.in-Some-odd-2.is)
        | in_default w ↦ ap (λ v. v.items) w.nodes-is ∙ sym (append-nil c.loop-item.nodes.items)
            ∙ ap (λ o. c.loop-item.nodes.items ++ option_to_list o) (sym w.in_default.is)
      ]) c.loop-item.invariant,
)
