-- A root of the level is one of the leaves.
use Rattle.commonware_parallel.proofs.{refl, IfOk-weaker, MerkleRoot, RootOf, root_of_levels}
use Rattle.std.specs.Iterator.{Drains}
use Rattle.parallel_bridge.specs.Sources.{GivesSome}
use Rattle.commonware_parallel.proofs.merkle.plain.plain_root_of.Goals as goal

pub returns-clause-root : goal.returns-clause-root
returns-clause-root g c =
    let came = c.in_ok-level.ensures.level in let above = goal.F-post g c.args.combine.now in
    let nodes = c.in_ok-level.level.items in
    IfOk-weaker c.plain_root.result (MerkleRoot above nodes)
    (λ root. GivesSome (Drains g.I.Iterator.next_gives) c.args.items
    (λ xs. RootOf (goal.L-post g c.args.leaf.now) above xs root))
    (λ root h. (
      came.0,
      came.1,
      (
        came.2.0,
        came.2.1,
        root_of_levels above 1 came.2.0 nodes root (nodes, came.2.2, refl) h,
      ),
    )) c.plain_root.ensures.root
