-- The pick that takes a lesser item is the first least one.
use Rattle.std.proofs.lemmas.Result.{IfOk-weaker}
use Rattle.parallel_calls.proofs.Picks.{least_of}
use Rattle.parallel_calls.proofs.on.On.min_by.Goals as goal

pub returns-clause-least : goal.returns-clause-least
returns-clause-least g c lt order says = IfOk-weaker c.pick.result _ _
    (λ r w. (w.0, w.1, least_of lt w.0 r w.2)) (c.pick.ensures.pick lt order says)
