-- A list that is not split is one segment, which may be stopped before its first item.
use Rattle.parallel_bridge.proofs.{◌≡◌, ◌∙◌, Closure, Err, GivesSome, Stopped, driven_leaf, halting, subst, sym, unless_weaker, unstopped}
use Rattle.parallel_bridge.proofs.Feeds.{halting_weaker}
use Rattle.parallel_bridge.specs.Endings.{stopping, well}
use Rattle.parallel_bridge.specs.Watched.{granted, items_of}
use Rattle.parallel_bridge.proofs.bridge.HandingTask.run.Goals as goal

pub returns-in-Err : goal.returns-in-Err
returns-in-Err g c depth short =
    let self = c.args.self in let gives = g.S.Segment.gives in
    let count = g.S.Segment.count self.parts in let made = c.into_items.ensures in
    let rest = c.rest-rest.ensures in let came = rest.gives in
    let C = g.S.Items.Cursor in
    let items : items_of c.in-Err.held ≡ c.into_items.result =
    c.in-Err.ensures.left ∙ c.new-items.ensures.items in
    let ends = subst (λ w. g.G.Watch.ends self.watch count w well)
    (sym c.new-items.ensures.watch) (g.met.G.Watch.begins self.watch count c.requires.2) in (
      driven_leaf gives self.parts (halting (g.C.Consumer.leaf_gives self.consumer))
          (λ p. unstopped (g.C.Consumer.node_gives self.consumer p)) depth
          (Err (Closure Stopped)) short
          (came.0, made.gives came.0 (subst (λ i. C.gives i came.0) items came.1), tt),
      made.leaves c.rest-rest.result.0
          (subst (λ i. C.leaves i c.rest-rest.result.0) items rest.leaves),
      subst (λ w. g.G.Watch.ends self.watch count w stopping) (sym rest.watch)
          (c.in-Err.ensures.stops self.watch count ends),
    )

pub returns : goal.returns
returns g c depth short =
    let self = c.args.self in let gives = g.S.Segment.gives in
    let count = g.S.Segment.count self.parts in let leaf = g.C.Consumer.leaf_gives self.consumer in
    let folds = g.C.Folder.Folder.gives c.in-Ok-into_folder.folder in
    let made = c.into_items.ensures in let done = c.feed_items.ensures in
    let answer = c.feed_items.result.0 in let C = g.S.Items.Cursor in
    let items : items_of (granted c.in-Ok.leave) ≡ c.into_items.result =
    c.in-Ok.ensures.items ∙ c.new-items.ensures.items in
    let ends = subst (λ w. g.G.Watch.ends self.watch count w well)
    (sym c.new-items.ensures.watch) (g.met.G.Watch.begins self.watch count c.requires.2) in (
      driven_leaf gives self.parts (halting leaf)
          (λ p. unstopped (g.C.Consumer.node_gives self.consumer p)) depth answer short
          (unless_weaker answer (λ out. GivesSome C.gives
          (items_of (granted c.in-Ok.leave)) (λ xs. halting folds xs out))
          (λ out. GivesSome gives self.parts (λ xs. halting leaf xs out))
          (λ out h. (
            h.0,
            made.gives h.0 (subst (λ i. C.gives i h.0) items h.1),
            halting_weaker folds leaf h.0 h.0 (c.in-Ok-into_folder.ensures.gives h.0) out h.2,
          ))
          done.gives),
      made.leaves c.feed_items.result.1
          (subst (λ i. C.leaves i c.feed_items.result.1) items done.leaves),
      done.goes self.watch count (c.in-Ok.ensures.goes self.watch count ends),
    )
