-- Where the closure goes by a function, the results are the function's.
use Rattle.std.proofs.lemmas.Result.{IfOk-weaker}
use Rattle.parallel_calls.proofs.Functions.{plain_map}
use Rattle.parallel_calls.proofs.on.On.map.Goals as goal

pub returns-clause-plain : goal.returns-clause-plain
returns-clause-plain g c f goes = IfOk-weaker c.map_collect_vec.result _ _ (λ ys w.
    (w.0, w.1, plain_map (λ x y. goal.F-post g c.args.map_op x y) f goes w.0 ys.items w.2))
    c.map_collect_vec.ensures.answers
