-- The tops of two full blocks are combined.
use Rattle.commonware_parallel.proofs.{◌+◌, arith, refl, leaves_below, leaves_some, two_down}
use Rattle.commonware_parallel.proofs.merkle.tops.TwiceKnownBlock.top.Goals as goal

pub returns : goal.returns
returns g c =
    let C = g.C.Cursor in let half = leaves_below g.B.KnownBlock.levels in
    let some = leaves_some g.B.KnownBlock.levels in record {
      top = two_down C.ready C.gives C.may C.leaves (goal.L-post g c.args.leaf.now)
          (goal.F-post g c.args.combine.now) c.args.items.now c.top-left.new.items
          c.top-right.new.items (half + half) half half (half + half) c.top-left.result
          c.top-right.result c.combine.result (omega (arith, some)) (omega arith) refl
          c.top-left.ensures.top c.top-right.ensures.top c.combine.ensures;
    }
