-- What comes by reductions of neighbours is the plain fold under the laws.
use Rattle.std.proofs.lemmas.Result.{IfOk-weaker}
use Rattle.parallel_bridge.proofs.Laws.{plain_from_bracketing}
use Rattle.parallel_calls.proofs.on.On.fold.Goals as goal

pub returns-clause-plain : goal.returns-clause-plain
returns-clause-plain g c unit f h good laws = IfOk-weaker c.fold.result _ _ (λ r w. (
  w.0,
  w.1,
  plain_from_bracketing _ _ _ w.0 r w.2 unit f h good (laws w.0 w.1),
)) c.fold.ensures.brackets
