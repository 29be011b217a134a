-- The front half is full where items come after it, and is all of them where none do.
use Rattle.commonware_parallel.proofs.{◌-◌, ◌/◌, arith, refl, one_down, two_down}
use Rattle.commonware_parallel.proofs.merkle.tops.+top_by_halves.Goals as goal

pub returns-then-count-half : goal.returns-then-count-half
returns-then-count-half g t c =
    let C = g.C.Cursor in record {
      top = one_down C.ready C.gives C.may C.leaves (goal.L-post g c.args.leaf.now)
          (goal.F-post g c.args.combine.now) c.args.items.now c.top_by_halves.new.items c.args.size
          (c.args.size / 2) c.args.count c.top_by_halves.result (omega arith) refl
          c.top_by_halves.ensures.top;
    }

pub returns : goal.returns
returns g t c =
    let C = g.C.Cursor in let half = c.args.size / 2 in record {
      top = two_down C.ready C.gives C.may C.leaves (goal.L-post g c.args.leaf.now)
          (goal.F-post g c.args.combine.now) c.args.items.now c.full_top-left.new.items
          c.top_by_halves-right.new.items c.args.size half (c.args.count - half) c.args.count
          c.full_top-left.result c.top_by_halves-right.result c.combine.result (omega arith) refl
          (omega arith) c.full_top-left.ensures.top c.top_by_halves-right.ensures.top
          c.combine.ensures;
    }
