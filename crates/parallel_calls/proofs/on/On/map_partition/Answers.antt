-- Where the closure goes by a function, the values and the keys are the function's.
use Rattle.std.proofs.lemmas.Result.{IfOk-weaker}
use Rattle.parallel_calls.proofs.Functions.{plain_partition}
use Rattle.parallel_calls.proofs.on.On.map_partition.Goals as goal

pub returns-clause-plain : goal.returns-clause-plain
returns-clause-plain g c f goes =
    IfOk-weaker c.map_partition_collect_vec.result _ _ (λ parts w. (
      w.0,
      w.1,
      plain_partition (λ x p. goal.F-post g c.args.map_op x p) f goes w.0 parts.0.items
          parts.1.items w.2,
    )) c.map_partition_collect_vec.ensures.answers
