-- The step stops with the first item that satisfies the test.
use Rattle.std.proofs.Common.{rules}
use Rattle.std.specs.Fn.{FnReturnsAt}
use Rattle.std.proofs.lemmas.Result.{IfOk-weaker}
use Rattle.parallel_calls.proofs.FirstItems.{first_of, plain_first}
use Rattle.parallel_calls.proofs.on.On.find_first.Goals as goal

pub returns-clause-first : goal.returns-clause-first
returns-clause-first g c = IfOk-weaker c.first_stop.result _ _ (λ r w. (
  w.0,
  w.1,
  first_of (λ x b. FnReturnsAt g.F.Fn c.args.test x b) _ (λ x out k. search rules) w.0 r w.2,
)) c.first_stop.ensures.stops

pub returns-clause-plain : goal.returns-clause-plain
returns-clause-plain g c passes goes = IfOk-weaker c.first_stop.result _ _
    (λ r w. (w.0, w.1, plain_first (λ x b. FnReturnsAt g.F.Fn c.args.test x b) passes goes w.0 r w.2))
    (returns-clause-first g c)
