-- What comes by reductions of neighbours is the plain fold under the laws.
use Rattle.std.proofs.lemmas.Result.{IfOk-weaker}
use Rattle.uses.proofs.folds.plain_fold.Goals as goal

pub returns-clause-plain : goal.returns-clause-plain
returns-clause-plain g c =
    IfOk-weaker c.fold.result _ _ (λ r h. (h.0, h.1, c.fold_law.ensures h.0 r h.2))
    c.fold.ensures.brackets
