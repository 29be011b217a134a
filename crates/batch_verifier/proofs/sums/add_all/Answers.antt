-- Each way of cutting the list gives its sum, or its first number over the limit.
use Rattle.std.proofs.Common.{rules, arith}
use Rattle.std.proofs.lemmas.Result.{IfOk-weaker}
use Rattle.parallel_bridge.proofs.OverLists.{if_ok, if_err}
use Rattle.batch_verifier.proofs.Verdicts.{summed}
use Rattle.batch_verifier.proofs.sums.add_all.Goals as goal

pub returns-clause-within : goal.returns-clause-within
returns-clause-within g c =
    let all = summed c.args.numbers.now c.args.limit _
    (λ a x out. goal.F-post g c.args.step a x out) _ c.try_fold.result
    c.try_fold.ensures.brackets (λ e k. search rules) c.requires.adds
    (λ a b r k. search rules) in
    IfOk-weaker c.try_fold.result _ _ (λ r h. h.0) (if_ok _ _ c.try_fold.result all)

pub returns-clause-sum : goal.returns-clause-sum
returns-clause-sum g c =
    let all = summed c.args.numbers.now c.args.limit _
    (λ a x out. goal.F-post g c.args.step a x out) _ c.try_fold.result
    c.try_fold.ensures.brackets (λ e k. search rules) c.requires.adds
    (λ a b r k. search rules) in
    IfOk-weaker c.try_fold.result _ _ (λ r h. omega (arith, h.1)) (if_ok _ _ c.try_fold.result all)

pub returns-clause-first : goal.returns-clause-first
returns-clause-first g c =
    let all = summed c.args.numbers.now c.args.limit _
    (λ a x out. goal.F-post g c.args.step a x out) _ c.try_fold.result
    c.try_fold.ensures.brackets (λ e k. search rules) c.requires.adds
    (λ a b r k. search rules) in
    if_err _ _ c.try_fold.result all
