-- What was written into the segments' rooms, side by side, are the results for the list.
use Rattle.parallel_bridge.proofs.{Infallible, MapOf, Shape, Driven, GivesSome, TryAlongCut, Ok, cutdepth, subst, sym, Answered, OneAfterAnother, written, filled_shape}
use Rattle.parallel_bridge.proofs.list.map.map_parallel.Goals as goal

pub returns-in-Ok-clause-maps : goal.returns-in-Ok-clause-maps
returns-in-Ok-clause-maps g c =
    let allowed = goal.F-post g c.args.map_op.now in
    let leaf = Answered {S = Unit {0}} {E = Infallible} (λ l s ys. MapOf allowed l ys) (λ l e. ⊥) in
    let gives = g.P.Parts.gives in let depth = cutdepth c.args.threads.value in
    let answers = c.fill-answers.result.0 in
    let w : GivesSome gives c.args.parts
    (λ xs. TryAlongCut leaf OneAfterAnother (Shape depth xs) (Ok answers.items)) =
    subst (λ d. Driven gives c.args.parts leaf OneAfterAnother depth (written answers d))
    c.in-Ok.ensures.same c.fill-answers.ensures.2 in (
      w.0,
      w.1,
      subst (MapOf allowed w.0) (sym c.into_vec.ensures)
          (filled_shape allowed Infallible depth w.0 answers.items w.2),
    )
