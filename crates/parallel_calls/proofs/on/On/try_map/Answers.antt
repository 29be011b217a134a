-- Where the closure goes by a function, the outcome is the function's.
use Rattle.parallel_calls.proofs.Functions.{plain_try_map}
use Rattle.parallel_calls.proofs.on.On.try_map.Goals as goal

pub returns-clause-plain : goal.returns-clause-plain
returns-clause-plain g c f goes =
    plain_try_map (λ x r. goal.F-post g c.args.map_op x r) f goes
    (g.I.Source.gives c.args.source) c.try_map_collect_vec.result
    c.try_map_collect_vec.ensures.answers
