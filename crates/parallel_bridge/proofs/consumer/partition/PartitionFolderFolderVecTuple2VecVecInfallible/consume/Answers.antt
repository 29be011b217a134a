-- What comes after the item comes after all of it.
use Rattle.parallel_bridge.proofs.{sym, ap, ◌∙◌, ◌++◌, append-nil, keys_in, values_in, part_put, with_value, without_value}
use Rattle.parallel_bridge.proofs.consumer.partition.PartitionFolderFolderVecTuple2VecVecInfallible.consume.Goals as goal

pub returns-in_ok-filled-in-Some-clause-gives : goal.returns-in_ok-filled-in-Some-clause-gives
returns-in_ok-filled-in-Some-clause-gives g c xs out part =
    let self = c.args.self in let after = c.in_ok-filled-in-Some.ensures in
    let values = values_in self.filled.items ++ self.values.items in
    let keys = keys_in self.filled.items ++ self.keys.items in
    let pair = c.map_op-key.result in let one = with_value pair c.in-Some.value c.in-Some.is in
    part_put (goal.F-post g self.map_op.now) values _ keys _ c.args.item pair xs out part
    c.map_op-key.ensures (after.values ∙ sym (ap (λ l. values ++ l) one.0))
    (ap (λ l. l ++ self.keys.items) after.keys ∙ sym (append-nil keys)
    ∙ sym (ap (λ l. keys ++ l) one.1))

pub returns-in_ok-filled-in-None-clause-gives : goal.returns-in_ok-filled-in-None-clause-gives
returns-in_ok-filled-in-None-clause-gives g c xs out part =
    let self = c.args.self in let after = c.in_ok-filled-in-None.ensures in
    let values = values_in self.filled.items ++ self.values.items in
    let keys = keys_in self.filled.items ++ self.keys.items in
    let pair = c.map_op-key.result in let one = without_value pair c.in-None.is in
    part_put (goal.F-post g self.map_op.now) values _ keys _ c.args.item pair xs out part
    c.map_op-key.ensures
    (ap (λ l. l ++ self.values.items) after.values ∙ sym (append-nil values)
    ∙ sym (ap (λ l. values ++ l) one.0)) (after.keys ∙ sym (ap (λ l. keys ++ l) one.1))
