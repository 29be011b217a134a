-- One more item has changed.
use Rattle.parallel_row.proofs.{◌+◌, ◌∙◌, arith, get_or-set_other, ChangesAt, one_more_changed}
use Rattle.parallel_row.proofs.row.items_from.Goals as goal

pub loop-k-preserved : goal.loop-k-preserved
loop-k-preserved g c =
    let k = c.loop-k.k in
    let ys = c.loop-k.items in
    let y = c.at_item.new.item in (
      λ j d h. get_or-set_other ys k j y d (λ same. omega (arith, same, h))
          ∙ c.loop-k.invariant.0 j d (omega (arith, h)),
      one_more_changed (λ i. ChangesAt g.F.Fn c.args.op.now (c.args.from + i)) c.args.items.now ys
          k _ y (omega arith) c.loop-k.invariant.0 c.loop-k.invariant.1 c.at_item.ensures,
    )
