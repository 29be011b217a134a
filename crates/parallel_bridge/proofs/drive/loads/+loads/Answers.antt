-- What the loads came to, with that of one more load or of two.
use Rattle.parallel_bridge.proofs.{refl, rules, LoadCameTo, zip_at, zip_last, zip_more, zip_two}
use Rattle.parallel_row.proofs.Parts.{seen_elsewhere}
use Rattle.parallel_bridge.proofs.drive.loads.+loads.Goals as goal

pub drive_loads-returns-clause-loads : goal.drive_loads-returns-clause-loads
drive_loads-returns-clause-loads g t c =
    let came = LoadCameTo g.T.Task.ends in
    let all = c.push_reserved-2.new.self.items in
    let rest = c.take_last-load.new.self.items in
    let one = zip_last came c.args.ready.now.items c.push_reserved.new.self.items
    c.take_last.new.self.items c.drive_loads.new.ready.items c.take_last-load.result
    c.take_last.result c.push_reserved.ensures.items c.take_last.ensures.items
    c.drive_loads.ensures.ready in
    rw c.take_last-load.ensures.items (zip_more came rest c.drive_loads.new.loads.items all
    c.take_last-load.result c.take_last.result c.push_reserved-2.ensures.items
    c.drive_loads.ensures.loads one.1)

pub drive_loads-returns-clause-ready : goal.drive_loads-returns-clause-ready
drive_loads-returns-clause-ready g t c = (zip_last (LoadCameTo g.T.Task.ends)
    c.args.ready.now.items c.push_reserved.new.self.items c.take_last.new.self.items
    c.drive_loads.new.ready.items c.take_last-load.result c.take_last.result
    c.push_reserved.ensures.items c.take_last.ensures.items c.drive_loads.ensures.ready).0

pub drive_parted-join_slots-left-requires-after_bounds :
    goal.drive_parted-join_slots-left-requires-after_bounds
drive_parted-join_slots-left-requires-after_bounds g t c κs within =
    let (rest, inner, outer) = zip_two (LoadCameTo g.T.Task.ends) _ _ _ _ _ _ _ _ _ _
    c.push_reserved.ensures.items c.push_reserved-2.ensures.items c.take_last-outer.ensures.items
    c.take_last-inner.ensures.items c.drive_loads.ensures.loads in
    (c.cut_slot-left_front.ensures.cut _ _ outer.0 inner.0).0

pub drive_parted-join_slots-right-requires-after_bounds :
    goal.drive_parted-join_slots-right-requires-after_bounds
drive_parted-join_slots-right-requires-after_bounds g t c κs within =
    let (rest, inner, outer) = zip_two (LoadCameTo g.T.Task.ends) _ _ _ _ _ _ _ _ _ _
    c.push_reserved.ensures.items c.push_reserved-2.ensures.items c.take_last-outer.ensures.items
    c.take_last-inner.ensures.items c.drive_loads.ensures.loads in
    (c.cut_slot-right_front.ensures.cut _ _ inner.1 outer.1).0

pub drive_parted-returns-clause-loads : goal.drive_parted-returns-clause-loads
drive_parted-returns-clause-loads g t c =
    let (rest, inner, outer) = zip_two (LoadCameTo g.T.Task.ends) _ _ _ _ _ _ _ _ _ _
    c.push_reserved.ensures.items c.push_reserved-2.ensures.items c.take_last-outer.ensures.items
    c.take_last-inner.ensures.items c.drive_loads.ensures.loads in
    zip_more (LoadCameTo g.T.Task.ends) _ _ _ _ _ c.push_reserved-3.ensures.items rest (
      (c.cut_slot-left_front.ensures.cut _ _ outer.0 inner.0).1 _ c.join_slots-left.ensures,
      (c.cut_slot-right_front.ensures.cut _ _ inner.1 outer.1).1 _ c.join_slots-right.ensures,
    )

pub run_row-returns-then-grain-lt2 : goal.run_row-returns-then-grain-lt2
run_row-returns-then-grain-lt2 g t c = zip_at (LoadCameTo g.T.Task.ends) c.args.ready.now
    c.each_item.new.items (search rules)
    (λ i d below. let at = (c.each_item.ensures i d below).1 in
    seen_elsewhere (λ _ u v. LoadCameTo g.T.Task.ends u v) {i = i} refl at.argument_is at.left
    (search rules))

pub run_row-returns : goal.run_row-returns
run_row-returns g t c = zip_at (LoadCameTo g.T.Task.ends) c.args.ready.now
    c.each_item-2.new.items (search rules)
    (λ i d below. let at = (c.each_item-2.ensures i d below).1 in
    seen_elsewhere (λ _ u v. LoadCameTo g.T.Task.ends u v) {i = i} refl at.argument_is at.left
    (search rules))
