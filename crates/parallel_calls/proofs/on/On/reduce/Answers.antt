-- A step and a reduction put two together.
use Rattle.std.proofs.Common.{rules}
use Rattle.std.proofs.lemmas.Result.{IfOk-weaker}
use Rattle.parallel_calls.proofs.Reductions.{plain_reduction, reduction_of_fold}
use Rattle.parallel_calls.proofs.on.On.reduce.Goals as goal

pub returns-clause-reduced : goal.returns-clause-reduced
returns-clause-reduced g c = IfOk-weaker c.fold.result _ _ (λ r w. (
  w.0,
  w.1,
  reduction_of_fold (λ a b v. goal.G-post g c.args.op a b v) _ _ _ (λ e k. search rules)
      (λ a x b k. search rules) (λ a b s k. search rules) w.0 r w.2,
)) c.fold.ensures.brackets

pub returns-clause-plain : goal.returns-clause-plain
returns-clause-plain g c h laws = IfOk-weaker c.fold.result _ _
    (λ r w. (w.0, w.1, plain_reduction (λ a b v. goal.G-post g c.args.op a b v) h laws w.0 r w.2))
    (returns-clause-reduced g c)
