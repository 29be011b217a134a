-- The step stops with the first value.
use Rattle.std.proofs.Common.{rules}
use Rattle.std.proofs.lemmas.Result.{IfOk-weaker}
use Rattle.parallel_calls.proofs.FirstItems.{first_value_of, plain_value}
use Rattle.parallel_calls.proofs.on.On.find_map_first.Goals as goal

pub returns-clause-first : goal.returns-clause-first
returns-clause-first g c = IfOk-weaker c.first_stop.result _ _ (λ r w. (
  w.0,
  w.1,
  first_value_of (λ x o. goal.F-post g c.args.map_op x o) _ (λ x out k. search rules) w.0 r w.2,
)) c.first_stop.ensures.stops

pub returns-clause-plain : goal.returns-clause-plain
returns-clause-plain g c f goes = IfOk-weaker c.first_stop.result _ _
    (λ r w. (w.0, w.1, plain_value (λ x o. goal.F-post g c.args.map_op x o) f goes w.0 r w.2))
    (returns-clause-first g c)
