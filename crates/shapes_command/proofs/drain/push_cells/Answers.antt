-- One more range is pushed.
use Rattle.shapes_command.proofs.{◌-◌, Ok, refl, YieldsList-from_range, pushed}
use Rattle.std.proofs.lemmas.Iterator.Adapters.{items_from_extend}
use Rattle.shapes_command.proofs.drain.push_cells.Goals as goal

pub loop-range-preserved : goal.loop-range-preserved
loop-range-preserved c n =
    let r = c.in-Some.range in
    let grown = items_from_extend {E = Unit {0}} (Ok tt) c.in_ok-extend.ensures.ran
    (YieldsList-from_range r.start r.end (r.end - r.start) refl refl) in
    pushed n c.loop-range.cells.items c.extend.new.self.items c.args.cells.now.items
    c.loop-range.yielded r (c.loop-range.invariant n) grown.0
