-- What the parts give the source may give.
use Rattle.commonware_parallel.proofs.{refl, IfOk-weaker, RootOf}
use Rattle.parallel_bridge.specs.Sources.{GivesSome}
use Rattle.commonware_parallel.proofs.merkle.blocks.root_of_leaves_by_levels.Goals as goal

pub returns-clause-root : goal.returns-clause-root
returns-clause-root g c =
    IfOk-weaker c.root_of_parts.result _
    (λ root. GivesSome g.I.Source.gives c.args.source
    (λ xs. RootOf (goal.L-post g c.args.leaf) (goal.F-post g c.args.combine) xs root))
    (λ root h. (h.0, c.in_ok-parts.ensures.gives h.0 h.1, h.2)) c.root_of_parts.ensures.root

pub root_of_parts-requires-clause-size : goal.root_of_parts-requires-clause-size
root_of_parts-requires-clause-size g c κs within = (1, refl)
