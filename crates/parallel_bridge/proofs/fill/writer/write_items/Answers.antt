-- One turn is one result more, and there are as many items as places.
use Rattle.parallel_bridge.proofs.{rules, ◌≡◌, ◌+◌, ◌++◌, ◌∙◌, ◌∷◌, [], IfOk, List, ap, append_assoc, length, length-append, one_answered, subst, sym}
use Rattle.parallel_bridge.specs.Endings.{well}
use Rattle.parallel_bridge.specs.Watched.{items_of, watch_of}
use Rattle.parallel_bridge.proofs.fill.writer.write_items.Goals as goal

pub answer-answer-requires-clause-takes : goal.answer-answer-requires-clause-takes
answer-answer-requires-clause-takes g c = c.requires.takes c.in-Ok-next.coming.item
    (c.loop-room.invariant.may c.in-Ok-next.coming.item
    (subst (λ i. g.C.Cursor.may i c.in-Ok-next.coming.item) c.in-Ok.ensures.items
    c.in-Ok-next.ensures.may))

pub loop-room-preserved : goal.loop-room-preserved
loop-room-preserved g c =
    let so_far = c.loop-room.invariant in let came = so_far.came in
    let x = c.in-Ok-next.coming.item in let next = c.in-Ok-next.ensures in
    let C = g.C.Cursor in let ys = c.loop-room.room.items in
    let here : items_of c.in-Ok.leave.held ≡ items_of c.loop-room.items = c.in-Ok.ensures.items in
    let after : items_of c.answer-answer.result.1 ≡ items_of c.in-Ok-next.coming.held =
    c.answer-answer.ensures.items in
    let watch : watch_of c.answer-answer.result.1 ≡ watch_of c.in-Ok.leave.held =
    subst (λ r. IfOk r (λ _. watch_of c.answer-answer.result.1
    ≡ watch_of c.in-Ok-next.coming.held)) c.in-Ok-answer.is c.answer-answer.ensures.watch
    ∙ next.watch in
    record {
      cursor = subst C.ready (sym after) next.ready;
      may = λ y h. so_far.may y (subst (λ i. C.may i y) here
          (next.others y (subst (λ i. C.may i y) after h)));
      came = one_answered (λ l. (more : List g.row.X.Denot)
          → C.gives (items_of c.answer-answer.result.1) more
          → C.gives (items_of c.args.items) (l ++ more))
          (g.W.Writer.so_far c.args.writer.now) came.0 x ys c.put.new.self.items
          c.in-Ok-answer.answer c.answer-answer.new.state
          (λ more h. subst (C.gives (items_of c.args.items)) (sym (append_assoc came.0 (x ∷ []) more))
          (came.1 (x ∷ more) (subst (λ i. C.gives i (x ∷ more)) here
          (next.item more (subst (λ i. C.gives i more) after h)))))
          (ap (λ v. v.items) c.put.ensures)
          (subst (λ r. IfOk r (λ y. (xs : List g.row.X.Denot) (zs : List g.row.W-Answer.Denot)
          → g.W.Writer.so_far c.args.writer.now xs c.loop-room.state zs
          → g.W.Writer.so_far c.args.writer.now (xs ++ x ∷ []) c.answer-answer.new.state
          (zs ++ y ∷ []))) c.in-Ok-answer.is c.answer-answer.ensures.next came.0 ys came.2)
          came.3;
      leaves = λ rest h. so_far.leaves rest (subst (λ i. C.leaves i rest) here
          (next.leaves rest (subst (λ i. C.leaves i rest) after h)));
      place = search rules;
      first = search rules;
      goes = λ first count h. subst (λ w. g.G.Watch.ends first count w well)
          (sym watch)
          (c.in-Ok.ensures.goes first count (so_far.goes first count h));
      looked = subst (λ n. g.G.Watch.looked (watch_of c.args.items) n
          (watch_of c.answer-answer.result.1))
          (sym (ap (λ v. length v.items) c.put.ensures
          ∙ length-append ys (c.in-Ok-answer.answer ∷ [])))
          (subst (λ w. g.G.Watch.looked (watch_of c.args.items) (length ys + 1) w) (sym watch)
          (c.in-Ok.ensures.looks (watch_of c.args.items) (length ys) so_far.looked));
    }
