-- There is a place for each block, the last one maybe not full.
use Rattle.commonware_parallel.proofs.{◌≡◌, ◌<◌, ◌∙◌, arith, ap, sym, subst, AreBlocks, div_ceil_times, div_ceil, leaves_some}
use Rattle.commonware_parallel.proofs.merkle.descent.descend.Goals as goal

pub div_ceil-blocks-requires : goal.div_ceil-blocks-requires
div_ceil-blocks-requires g c =
    let some = leaves_some c.requires.size.0 in omega (arith, some, c.requires.size.1)

pub descend_into-tops-requires-clause-blocks : goal.descend_into-tops-requires-clause-blocks
descend_into-tops-requires-clause-blocks g c κs within =
    let some : 0 < c.args.size =
    (let low = leaves_some c.requires.size.0 in omega (arith, low, c.requires.size.1)) in
    let count = g.P.Parts.count c.args.parts in
    let room : c.in_ok-room.room.room ≡ div_ceil count c.args.size =
    ap (λ w. w.room) c.in_ok-room.ensures.window.0 ∙ c.div_ceil-blocks.ensures
    ∙ ap (λ n. div_ceil n c.args.size) c.len.ensures.counted in
    subst (AreBlocks c.args.size count) (sym room) (div_ceil_times count c.args.size some)
