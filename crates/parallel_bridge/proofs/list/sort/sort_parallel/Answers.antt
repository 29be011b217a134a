-- What is sorted by the closure that calls `compare` is sorted by `compare`.
use Rattle.parallel_bridge.proofs.{rules, on_ok_weaker, sorted_through, stable_through}
use Rattle.parallel_bridge.proofs.list.sort.sort_parallel.Goals as goal

pub returns-clause-sorted : goal.returns-clause-sorted
returns-clause-sorted g c = on_ok_weaker c.sort_rounds.result
    (λ is. sorted_through g.C.Fn _ (λ s. s.0.now)
    (λ s a r t k. (search rules, search rules)) _ _ is) c.sort_rounds.ensures.sorted

pub returns-clause-stable : goal.returns-clause-stable
returns-clause-stable g c = stable_through g.C.Fn _ (λ s. s.0.now)
    (λ s a r t k. (search rules, search rules)) _ _ _ c.sort_rounds.ensures.stable
