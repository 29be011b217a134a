-- A step and a reduction add.
use Rattle.std.proofs.Common.{rules}
use Rattle.std.proofs.lemmas.Result.{IfOk-weaker}
use Rattle.parallel_calls.proofs.Sums.{sum_of_fold}
use Rattle.parallel_calls.proofs.on.On.sum.Goals as goal

pub returns-clause-sum : goal.returns-clause-sum
returns-clause-sum g c = IfOk-weaker c.fold.result _ _ (λ r w. (
  w.0,
  w.1,
  sum_of_fold _ _ _ _ (λ e k. search rules) (λ a x b k. search rules) (λ a b s k. search rules)
      w.0 r w.2,
)) c.fold.ensures.brackets
