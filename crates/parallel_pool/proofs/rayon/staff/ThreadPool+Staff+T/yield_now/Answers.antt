-- A job that was found is one more call.
use Rattle.parallel_pool.proofs.{rules, arith, refl, calls_more}
use Rattle.parallel_pool.proofs.rayon.staff.ThreadPool+Staff+T.yield_now.Goals as goal

pub returns-in-Some-clause-executed : goal.returns-in-Some-clause-executed
returns-in-Some-clause-executed g c =
    (λ _. let h = calls_more _ _ _ c.in-Some.ensures in omega (arith, h), λ _. refl)

pub returns-in-Some-clause-once : goal.returns-in-Some-clause-once
returns-in-Some-clause-once g c =
    λ _. (c.in-Some.job, c.in-Some.ensures, calls_more _ _ _ c.in-Some.ensures)

pub returns-in-Some-clause-none : goal.returns-in-Some-clause-none
returns-in-Some-clause-none g c = search rules

pub returns-in-None-clause-none : goal.returns-in-None-clause-none
returns-in-None-clause-none g c = search rules
