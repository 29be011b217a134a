-- One turn is one item more, and one look.
use Rattle.parallel_bridge.proofs.{IfOk, List, Result, ◌≡◌, ◌∙◌, ap, ◌++◌, ◌∷◌, [], append_assoc, sym, subst}
use Rattle.parallel_bridge.proofs.Feeds.{looked_more}
use Rattle.parallel_bridge.specs.Endings.{LooksOnce, well}
use Rattle.parallel_bridge.specs.Watched.{granted, items_of, watch_of}
use Rattle.parallel_bridge.proofs.bridge.feed.feed_items.Goals as goal

pub feeding-preserved : goal.feeding-preserved
feeding-preserved g c =
    let so_far = c.feeding.invariant in let came = so_far.came in let C = g.C.Cursor in
    let x = c.in-Ok.coming.item in let next = c.in-Ok.ensures in
    let consumed = c.consume-taken.ensures in let f = c.in-Ok-taken.folder in
    let items : items_of (granted c.in-Ok-look.leave) ≡ items_of c.in-Ok.coming.held =
    c.in-Ok-look.ensures.items ∙ ap items_of consumed.others in
    let watch : watch_of c.consume-taken.result.1 ≡ watch_of (granted c.feeding.leave) =
    ap watch_of consumed.others ∙ next.watch in
    let takes = subst (λ r. IfOk r (λ f. (y : g.row.X.Denot)
    → g.F.Folder.takes c.feeding.folder y → g.F.Folder.takes f y)) c.in-Ok-taken.is
    consumed.takes in
    let gives = subst (λ r. IfOk r (λ f. (xs : List g.row.X.Denot)
    (out : Result g.row.R.Denot g.row.E.Denot) → g.F.Folder.gives f xs out
    → g.F.Folder.gives c.feeding.folder (x ∷ xs) out)) c.in-Ok-taken.is consumed.gives in
    record {
      cursor = subst C.ready (sym items) next.ready;
      ready = subst (λ r. IfOk r (λ f. g.F.Folder.ready f)) c.in-Ok-taken.is consumed.ready;
      takes = λ y h. takes y (so_far.takes y (next.others y (subst (λ i. C.may i y) items h)));
      came = (
        came.0 ++ x ∷ [],
        λ more h. subst (C.gives (items_of (granted c.args.leave)))
            (sym (append_assoc came.0 (x ∷ []) more))
            (came.1 (x ∷ more) (next.item more (subst (λ i. C.gives i more) items h))),
        λ more out h. subst (λ l. g.F.Folder.gives c.args.folder l out)
            (sym (append_assoc came.0 (x ∷ []) more)) (came.2 (x ∷ more) out (gives more out h)),
        looked_more g.G.Watch.looked (watch_of (granted c.args.leave))
            (watch_of (granted c.feeding.leave)) (watch_of (granted c.in-Ok-look.leave)) came.0 x
            came.3 (subst (λ w. LooksOnce g.G.Watch.looked w
            (watch_of (granted c.in-Ok-look.leave))) watch c.in-Ok-look.ensures.looks),
      );
      leaves = λ rest h. so_far.leaves rest (next.leaves rest
          (subst (λ i. C.leaves i rest) items h));
      goes = λ first count h. c.in-Ok-look.ensures.goes first count
          (subst (λ w. g.G.Watch.ends first count w well) (sym watch)
          (so_far.goes first count h));
    }
