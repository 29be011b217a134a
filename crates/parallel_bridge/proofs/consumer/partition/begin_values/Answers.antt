-- What is full lies after what was, and no key is new.
use Rattle.parallel_bridge.proofs.{◌++◌, ap, ◌∙◌, append-nil, keys_in, values_in, lists_put}
use Rattle.parallel_bridge.proofs.consumer.partition.begin_values.Goals as goal

pub returns-clause-values : goal.returns-clause-values
returns-clause-values g c =
    let filled = c.args.lists.now.0.items in
    (lists_put _ filled (c.replace-values.result, c.new.result) c.in_ok-push.ensures.items).0
    ∙ ap (λ list. values_in filled ++ list.items) c.replace-values.ensures.value

pub returns-clause-keys : goal.returns-clause-keys
returns-clause-keys g c =
    let filled = c.args.lists.now.0.items in
    (lists_put _ filled (c.replace-values.result, c.new.result) c.in_ok-push.ensures.items).1
    ∙ ap (λ l. keys_in filled ++ l) c.new.ensures.items ∙ append-nil (keys_in filled)
