-- Serially the list is one segment; in parallel it goes as the strategy's thread number says.
use Rattle.commonware_parallel.proofs.{rules, refl, length, subst, Ok, of_segment, body_call, FoldedAs, along_source, over_source}
use Rattle.parallel_bridge.proofs.Comes.{accepts_serially, comes_wider}
use Rattle.parallel_bridge.proofs.Paths.{folded_by}
use Rattle.parallel_bridge.specs.Shapes.{Along, Shape, cutdepth}
use Rattle.parallel_bridge.specs.declared.path.Path.TheVariants.{Serial, Parallel}
use Rattle.parallel_fault.specs.declared.fault.Fault.{Fault}
use Rattle.commonware_parallel.proofs.strategy.Strategy.fold.Goals as goal
use Rattle.commonware_parallel.proofs.strategy.Strategy.fold.Goals.{in-Serial, in-Parallel}

pub returns-then-is_serial-clause-brackets : goal.returns-then-is_serial-clause-brackets
returns-then-is_serial-clause-brackets g c =
    let w = c.fold_iter.ensures in
    (w.0, c.into_items.ensures.gives w.0 w.1, of_segment w.2)

pub returns-then-is_serial-clause-along : goal.returns-then-is_serial-clause-along
returns-then-is_serial-clause-along g c =
    let w = c.fold_iter.ensures in
    let site = g.P.Place.site_of c.args.site in
    let call = body_call (length w.0) in
    let taken = c.is_serial.ensures.first (search rules) site call refl in
    (w.0, c.into_items.ensures.gives w.0 w.1, (Serial, taken, (of_segment w.2, w.2)))

pub returns-clause-along : goal.returns-clause-along
returns-clause-along g c =
    let takes = g.Self.Chooser.takes c.args.self.now (g.P.Place.site_of c.args.site) in
    let path = c.in_ok-path.path in let chosen = c.in_ok-path.ensures.takes in
    let counted = c.body_over.ensures.counted in let gives = c.in_ok-parts.ensures.gives in
    let identity = goal.ID-post g c.args.identity in let step = goal.F-post g c.args.fold_op in
    let reduce = goal.G-post g c.args.reduce_op in
    let depth = cutdepth (g.Self.Chooser.threads c.args.self.now) in
    rw c.end_as.ensures (elim c.match-path.branch [
      | in-Serial w ↦ rw w.folded-is (along_source body_call _ takes path chosen
          (λ xs h. let came = w.into_items-in-Serial.ensures.gives xs h in
          (counted xs came, gives xs came)) {E = Fault}
          (FoldedAs identity step reduce depth) (Ok w.fold_iter-in-Serial.result)
          (λ xs r h. folded_by path Serial w.in-Serial.is depth identity step reduce xs r h)
          w.fold_iter-in-Serial.ensures)
      | in-Parallel w ↦ rw w.folded-is (along_source body_call _ takes path chosen
          (λ xs h. (counted xs h, gives xs h))
          (FoldedAs identity step reduce depth) w.fold_parallel-folded.result
          (λ xs r h. folded_by path Parallel w.in-Parallel.is depth identity step reduce xs r
          (subst (λ n. Along identity step reduce (Shape (cutdepth n) xs) r)
          c.thread_number-threads.ensures.number h)) w.fold_parallel-folded.ensures.along)
    ])

pub returns-clause-brackets : goal.returns-clause-brackets
returns-clause-brackets g c =
    over_source c.end_as.result (returns-clause-along g c) (λ xs h. h) (λ xs r h. h.2.0)

pub fold_iter-requires-clause-fold_accepts : goal.fold_iter-requires-clause-fold_accepts
fold_iter-requires-clause-fold_accepts g c =
    accepts_serially g.I.Iter.Iterator.next_gives c.into_items.result
    (g.I.Source.may c.args.source) (goal.ID-post g c.args.identity) (goal.F-post g c.args.fold_op)
    (goal.G-post g c.args.reduce_op) (λ r x. goal.F-pre g c.args.fold_op r x)
    c.into_items.ensures.may c.requires.fold_accepts

pub fold_iter-requires-in-Serial-clause-fold_accepts : goal.fold_iter-requires-in-Serial-clause-fold_accepts
fold_iter-requires-in-Serial-clause-fold_accepts g c =
    let from = c.in_ok-parts.ensures.may in
    accepts_serially g.I.Parts.Iter.Iterator.next_gives c.into_items-in-Serial.result
    (g.I.Parts.Parts.may c.in_ok-parts.parts) (goal.ID-post g c.args.identity)
    (goal.F-post g c.args.fold_op) (goal.G-post g c.args.reduce_op)
    (λ r x. goal.F-pre g c.args.fold_op r x) c.into_items-in-Serial.ensures.may
    (λ x may r comes. c.requires.fold_accepts x (from x may) r
    (comes_wider _ _ _ _ _ _ (λ a b r reduced. reduced) from comes))

pub fold_parallel-folded-requires-clause-fold_accepts : goal.fold_parallel-folded-requires-clause-fold_accepts
fold_parallel-folded-requires-clause-fold_accepts g c κs within x may r comes =
    let from = c.in_ok-parts.ensures.may in
    c.requires.fold_accepts x (from x may) r
    (comes_wider _ _ _ _ _ _ (λ a b r reduced. reduced) from comes)

pub fold_parallel-folded-requires-clause-reduce_accepts : goal.fold_parallel-folded-requires-clause-reduce_accepts
fold_parallel-folded-requires-clause-reduce_accepts g c κs within a b one other =
    let from = c.in_ok-parts.ensures.may in
    c.requires.reduce_accepts a b
    (comes_wider _ _ _ _ _ _ (λ a b r reduced. reduced) from one)
    (comes_wider _ _ _ _ _ _ (λ a b r reduced. reduced) from other)
