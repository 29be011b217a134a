-- A list that is not split is one segment.
use Rattle.parallel_bridge.proofs.{Closure, GivesSome, halting, Ok, Err, IfOk, subst, sym, Answered, IsFull, OneAfterAnother, kept, driven_leaf}
use Rattle.parallel_bridge.proofs.Watches.{halt_ends}
use Rattle.parallel_bridge.specs.Endings.{Goes, ending, well}
use Rattle.parallel_bridge.specs.Watched.{items_of, watch_of}
use Rattle.parallel_bridge.proofs.fill.FillingTask.run.Goals as goal

pub returns-in-Ok : goal.returns-in-Ok
returns-in-Ok g c depth short =
    let self = c.args.self in let room = c.write_items-done.new.room in
    let watch = c.write_items-done.result.2 in let written = c.write_items-done.ensures in
    let made = c.into_items.ensures in let count = g.S.Segment.count self.parts in
    let leaf =
    halting (Answered (g.W.Writer.so_far self.writer.now) (g.W.Writer.fails self.writer.now)) in
    let C = g.S.Items.Cursor in let items = c.new-items.ensures.items in
    let ends = subst (λ w. g.G.Watch.ends self.watch count w well) (sym c.new-items.ensures.watch)
    (g.met.G.Watch.begins self.watch count c.requires.3) in
    let some = subst (λ d. GivesSome C.gives (items_of c.new-items.result)
    (λ xs. leaf xs (kept d room.items))) c.in-Ok.is written.gives in (
      (
        written.place,
        subst (λ d. IfOk d (λ _. IsFull room)) c.in-Ok.is written.full,
        driven_leaf g.S.Segment.gives self.parts leaf OneAfterAnother depth (Ok room.items) short
            (some.0, made.gives some.0 (subst (λ i. C.gives i some.0) items some.1), some.2),
      ),
      made.leaves c.write_items-done.result.1
          (subst (λ i. C.leaves i c.write_items-done.result.1) items written.leaves),
      subst (λ d. Goes g.G.Watch.ends (watch_of c.new-items.result) watch (ending d)) c.in-Ok.is
          written.goes self.watch count ends,
    )

pub returns-in-Err : goal.returns-in-Err
returns-in-Err g c depth short =
    let self = c.args.self in let room = c.write_items-done.new.room in
    let watch = c.write_items-done.result.2 in let written = c.write_items-done.ensures in
    let made = c.into_items.ensures in let count = g.S.Segment.count self.parts in
    let leaf =
    halting (Answered (g.W.Writer.so_far self.writer.now) (g.W.Writer.fails self.writer.now)) in
    let C = g.S.Items.Cursor in let items = c.new-items.ensures.items in
    let ends = subst (λ w. g.G.Watch.ends self.watch count w well) (sym c.new-items.ensures.watch)
    (g.met.G.Watch.begins self.watch count c.requires.3) in
    let some = subst (λ d. GivesSome C.gives (items_of c.new-items.result)
    (λ xs. leaf xs (kept d room.items))) c.in-Err.is written.gives in (
      (
        written.place,
        tt,
        driven_leaf g.S.Segment.gives self.parts leaf OneAfterAnother depth
            (Err (Closure c.in-Err.halt)) short (some.0, made.gives some.0 (subst (λ i. C.gives i some.0) items some.1), some.2),
      ),
      made.leaves c.write_items-done.result.1
          (subst (λ i. C.leaves i c.write_items-done.result.1) items written.leaves),
      subst (g.G.Watch.ends self.watch count watch)
          (halt_ends (Unit {0}) (Unit {0}) c.in-Err.halt)
          (subst (λ d. Goes g.G.Watch.ends (watch_of c.new-items.result) watch (ending d))
          c.in-Err.is written.goes self.watch count ends),
    )
