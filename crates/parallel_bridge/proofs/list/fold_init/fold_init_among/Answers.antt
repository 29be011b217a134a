-- The value of each segment is reduced after an identity.
use Rattle.parallel_bridge.proofs.{◌∷◌, [], Infallible, FoldSegment, AlongLeaves, Shape, cutdepth, GivesSome, FoldStep, FoldInitSegment, TryAlongCut, OnlyOk, driven, fold_driven}
use Rattle.parallel_bridge.proofs.list.fold_init.fold_init_among.Goals as goal

pub returns-clause-along : goal.returns-clause-along
returns-clause-along g c =
    let init = goal.N-post g c.args.init.now in let identity = goal.ID-post g c.args.identity.now in
    let step = FoldStep (goal.F-post g c.args.fold_op.now) in
    let reduce = goal.G-post g c.args.reduce_op.now in let k = cutdepth c.args.threads.value in
    let gives = g.P.Parts.gives in let has = g.D.Domain.has in
    driven c.bridge.result c.unfailing.result (λ o. GivesSome gives c.args.parts
    (λ xs. TryAlongCut {E = Infallible}
    (λ l out. (b : g.row.R.Denot) × FoldInitSegment init identity step l b
    × OnlyOk (λ v. FoldSegment identity reduce (b ∷ []) v × has v) out)
    (λ a b out. OnlyOk (λ v. reduce a b v × has v) out) (Shape k xs) o))
    (λ r. GivesSome gives c.args.parts
    (λ xs. AlongLeaves identity (FoldInitSegment init identity step) reduce (Shape k xs) r))
    (λ r h. (
      h.0,
      h.1,
      fold_driven Infallible identity (FoldInitSegment init identity step) reduce has
          (Shape k h.0) r h.2,
    ))
    c.unfailing.ensures.same c.bridge.ensures.along
