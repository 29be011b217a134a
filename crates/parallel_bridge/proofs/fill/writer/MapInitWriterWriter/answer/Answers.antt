-- One step more of the states.
use Rattle.parallel_bridge.proofs.{rules, ◌++◌, ◌∷◌, [], sym, subst, append_assoc, MapStep, StateSegment}
use Rattle.parallel_bridge.proofs.fill.writer.MapInitWriterWriter.answer.Goals as goal

pub returns-clause-next : goal.returns-clause-next
returns-clause-next g c xs ys so_far more zs steps =
    let item = c.args.item in let answer = c.map_op.result in
    let init = goal.N-post g c.args.self.now.init.now in
    let step = MapStep (goal.F-post g c.args.self.now.map_op.now) in
    subst (λ l. StateSegment init step l ((ys ++ answer ∷ []) ++ zs))
    (sym (append_assoc xs (item ∷ []) more))
    (subst (λ l. StateSegment init step (xs ++ (item ∷ more)) l)
    (sym (append_assoc ys (answer ∷ []) zs))
    (so_far (item ∷ more) (answer ∷ zs) (_, search rules, steps)))
