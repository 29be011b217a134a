-- Each segment has a fresh state, and the results of two parts are one after another.
use Rattle.parallel_bridge.proofs.{List, Ok, [], ◌≡◌, ◌++◌, refl, subst, sym, append-nil, Infallible, cutdepth, Shape, Driven, GivesSome, MapStep, StatesFrom, StateSegment, StatesAlong, TryAlongCut, Answered}
use Rattle.parallel_bridge.proofs.{OneAfterAnother, written, along_unfailing, answers_along}
use Rattle.parallel_bridge.proofs.list.map_init.map_init_parallel.Goals as goal

pub returns-in-Ok-clause-along : goal.returns-in-Ok-clause-along
returns-in-Ok-clause-along g c =
    let init = goal.N-post g c.args.init.now in
    let step = MapStep (goal.F-post g c.args.map_op.now) in
    let so_far =
    λ (l : List g.row.P-Item.Denot) (s : g.row.S.Denot) (ys : List g.row.T.Denot). (more : List
    g.row.P-Item.Denot) (zs : List g.row.T.Denot) → StatesFrom step s more zs
    → StateSegment init step (l ++ more) (ys ++ zs) in
    let leaf = Answered {E = Infallible} so_far (λ l e. ⊥) in let gives = g.P.Parts.gives in
    let depth = cutdepth c.args.threads.value in let answers = c.fill-answers.result.0 in
    let w : GivesSome gives c.args.parts
    (λ xs. TryAlongCut leaf OneAfterAnother (Shape depth xs) (Ok answers.items)) =
    subst (λ d. Driven gives c.args.parts leaf OneAfterAnother depth (written answers d))
    c.in-Ok.ensures.same c.fill-answers.ensures.2 in
    let each = answers_along Infallible so_far (StateSegment init step)
    (λ l s ys h. subst (λ xs. StateSegment init step xs ys) (append-nil l)
    (subst (StateSegment init step (l ++ [])) (append-nil ys) (h [] [] refl))) (Shape depth w.0)
    (Ok answers.items) w.2 in (
      w.0,
      w.1,
      subst (StatesAlong init step (Shape depth w.0)) (sym c.into_vec.ensures)
          (along_unfailing Infallible (StateSegment init step) (λ a b c. c ≡ a ++ b)
          (Shape depth w.0) answers.items each),
    )
