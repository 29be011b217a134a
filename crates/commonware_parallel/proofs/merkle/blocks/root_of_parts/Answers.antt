-- A block has a leaf, and a root of the tops is one of the leaves.
use Rattle.commonware_parallel.proofs.{ℕ, List, Option, IfOk-weaker, arith, AreTopsOf, IsBlockSize, MerkleRoot, RootOf, leaves_some, root_of_levels}
use Rattle.parallel_bridge.specs.Sources.{GivesSome}
use Rattle.commonware_parallel.proofs.merkle.blocks.root_of_parts.Goals as goal

above_tops : {Q X T : Type 0} (gives : Q → List X → Type 0) (parts : Q) (leaf : X → T → Type 0)
    (above : T → T → T → Type 0) (size : ℕ) (tops : List T) → IsBlockSize size
    → GivesSome gives parts (λ xs. AreTopsOf leaf above size xs tops) → (root : Option T)
    → MerkleRoot above tops root → GivesSome gives parts (λ xs. RootOf leaf above xs root)
above_tops gives parts leaf above size tops sized came root h =
    let levels = root_of_levels above sized.0 came.2.0 tops root (came.2.2 sized.0 sized.1) h in
    (came.0, came.1, (came.2.0, came.2.1, levels))

pub div_ceil-requires : goal.div_ceil-requires
div_ceil-requires g c =
    let some = leaves_some c.requires.size.0 in omega (arith, some, c.requires.size.1)

pub returns-then-size-get-clause-root : goal.returns-then-size-get-clause-root
returns-then-size-get-clause-root g c =
    let came = rw c.in_ok-tops.was at c.descend-tops.ensures.tops in
    IfOk-weaker c.plain_root.result _ _ (above_tops g.Q.Parts.gives c.args.parts
    (goal.L-post g c.args.leaf.now) (goal.F-post g c.args.combine) c.args.size
    c.in_ok-tops.tops.items c.requires.size came) c.plain_root.ensures.root

pub returns-clause-root : goal.returns-clause-root
returns-clause-root g c =
    let came = rw c.in_ok-tops.was at c.descend-tops.ensures.tops in
    IfOk-weaker c.root.result _ _ (above_tops g.Q.Parts.gives c.args.parts
    (goal.L-post g c.args.leaf.now) (goal.F-post g c.args.combine) c.args.size
    c.in_ok-tops.tops.items c.requires.size came) c.root.ensures.root
