-- What comes by reductions of neighbours is the plain fold under the laws, whatever the states.
use Rattle.std.proofs.lemmas.Result.{IfOk-weaker}
use Rattle.uses.proofs.stateful.plain_fold_init.Goals as goal

pub returns-clause-plain : goal.returns-clause-plain
returns-clause-plain g c =
    IfOk-weaker c.fold_init.result _ _
    (λ r h. (h.0, h.1, c.fold_init_law.ensures h.0 r h.2)) c.fold_init.ensures.brackets
