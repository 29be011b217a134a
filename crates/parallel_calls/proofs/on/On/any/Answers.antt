-- The step stops where an item satisfies the test.
use Rattle.std.proofs.Common.{rules}
use Rattle.parallel_calls.proofs.FirstItems.{any_of, plain_any}
use Rattle.parallel_calls.proofs.on.On.any.Goals as goal

pub returns-clause-found : goal.returns-clause-found
returns-clause-found g c =
    let w = c.in_ok-stop.ensures.stops in (
      w.0,
      w.1,
      any_of (λ x b. goal.F-post g c.args.test x b) _ (λ x out k. search rules) w.0
          c.in_ok-stop.stop c.is_some.result (search rules) w.2,
    )

pub returns-clause-plain : goal.returns-clause-plain
returns-clause-plain g c passes goes =
    let w = returns-clause-found g c in
    (w.0, w.1, plain_any (λ x b. goal.F-post g c.args.test x b) passes goes w.0 c.is_some.result w.2)
