-- The lists that are full, and the last of each after them, are all.
use Rattle.parallel_bridge.proofs.{◌++◌, [], refl, sym, ◌∙◌, append-nil, keys_in, values_in, lists_put}
use Rattle.parallel_bridge.proofs.consumer.partition.PartitionFolderFolderVecTuple2VecVecInfallible.complete.Goals as goal

pub returns : goal.returns
returns g c =
    let self = c.args.self in
    let all = lists_put _ self.filled.items (self.values, self.keys) c.in_ok-push.ensures.items in (
      [],
      [],
      all.0 ∙ sym (append-nil (values_in self.filled.items ++ self.values.items)),
      all.1 ∙ sym (append-nil (keys_in self.filled.items ++ self.keys.items)),
      ([], tt, refl, refl),
    )
