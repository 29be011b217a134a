-- The closure may be called at each item that comes, and what was collected are its results.
use Rattle.parallel_bridge.proofs.{rules, map_steps, mapped_from, serves_along}
use Rattle.parallel_bridge.proofs.list.map.map_iter.Goals as goal

pub collect-requires-clause-can : goal.collect-requires-clause-can
collect-requires-clause-can g c = (
  search rules,
  rw c.map.ensures.source (rw c.map.ensures.closure
      (serves_along (λ x. g.F.Fn.pre c.args.map_op.now (x, tt)) c.requires.accepts
      (λ x q k. search rules) (λ x h. search rules))),
)

pub returns-clause-maps : goal.returns-clause-maps
returns-clause-maps g c =
    let ran = c.in_ok-collect.ensures.ran in
    rw ran.2.0 (mapped_from g.I.Iterator.next_gives
    (map_steps g.I.Iterator.next_gives _) _ c.args.iter c.map.result ran.0 c.map.ensures.closure
    c.map.ensures.source ran.1 (λ v x y. g.F.Fn.post v.0.now (x, tt) y)
    (λ s t y k. (k.0, k.1, search rules, search rules)) (λ s t k. k.0))
