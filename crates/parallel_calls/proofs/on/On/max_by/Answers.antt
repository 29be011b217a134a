-- The pick that takes an item which isn't less is the last greatest one.
use Rattle.std.proofs.lemmas.Result.{IfOk-weaker}
use Rattle.parallel_calls.proofs.Picks.{greatest_of}
use Rattle.parallel_calls.proofs.on.On.max_by.Goals as goal

pub returns-clause-greatest : goal.returns-clause-greatest
returns-clause-greatest g c lt order says = IfOk-weaker c.pick.result _ _
    (λ r w. (w.0, w.1, greatest_of lt w.0 r w.2)) (c.pick.ensures.pick lt order says)
