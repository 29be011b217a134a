-- The step stops where an item fails the test.
use Rattle.std.proofs.Common.{rules}
use Rattle.parallel_calls.proofs.FirstItems.{all_of, plain_all}
use Rattle.parallel_calls.proofs.on.On.all.Goals as goal

pub returns-clause-all : goal.returns-clause-all
returns-clause-all g c =
    let w = c.in_ok-stop.ensures.stops in (
      w.0,
      w.1,
      all_of (λ x b. goal.F-post g c.args.test x b) _ (λ x out k. search rules) w.0
          c.in_ok-stop.stop c.is_none.result (search rules) w.2,
    )

pub returns-clause-plain : goal.returns-clause-plain
returns-clause-plain g c passes goes =
    let w = returns-clause-all g c in
    (w.0, w.1, plain_all (λ x b. goal.F-post g c.args.test x b) passes goes w.0 c.is_none.result w.2)
