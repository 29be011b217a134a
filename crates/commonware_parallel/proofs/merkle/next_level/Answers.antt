-- The results for the pairs, and after them an odd last node.
use Rattle.commonware_parallel.proofs.{rules, ap, sym, ◌∙◌, ◌++◌, append-nil, option_to_list, level_from_map}
use Rattle.commonware_parallel.proofs.merkle.next_level.Goals as goal
use Rattle.commonware_parallel.proofs.merkle.next_level.Goals.{in-Some+in_ok-push, in_default}

pub returns-clause-next : goal.returns-clause-next
returns-clause-next g c =
    level_from_map (λ a b n. g.F.Fn.post c.args.combine.now (a, (b, tt)) n) _ c.args.level.items
    c.in_ok-nodes.nodes.items c.match-odd-2.nodes.items _ c.new-pairs.result.1
    c.in_ok-nodes.ensures.answers (λ p node k. search rules) c.new-pairs.ensures.pairs
    c.new-pairs.ensures.odd
    (elim c.match-odd-2.branch [
      | in-Some+in_ok-push w ↦ ap (λ v. v.items) w.nodes-is ∙ w.in_ok-push.ensures.items
          ∙ ap (λ o. c.in_ok-nodes.nodes.items ++ option_to_list o) (sym w.in-Some.is)
      | in_default w ↦ ap (λ v. v.items) w.nodes-is ∙ sym (append-nil c.in_ok-nodes.nodes.items)
          ∙ ap (λ o. c.in_ok-nodes.nodes.items ++ option_to_list o) (sym w.in_default.is)
    ])
