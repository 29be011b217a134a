-- The place is where the range before it ends, if there is one.
use Rattle.parallel_row.proofs.{◌-◌, arith, sym, place_in-none, place_in-end}
use Rattle.parallel_row.proofs.cuts.AlongCuts.place.Goals as goal

pub returns-then-before-eq0 : goal.returns-then-before-eq0
returns-then-before-eq0 c =
    sym (place_in-none 0 c.args.self.now.ranges.now c.args.number (omega arith))

pub returns : goal.returns
returns c =
    sym (place_in-end 0 c.args.self.now.ranges.now c.args.number (c.min-before.result - 1)
    record { start = 0; end = 0 } (omega arith))
