-- Where one side ends, the other one is gone through.
use Rattle.parallel_bridge.proofs.{[], ◌∷◌, refl}
use Rattle.parallel_bridge.proofs.zipped.ZippedIterIterator.next.Goals as goal

pub returns-in-None-next-clause-steps : goal.returns-in-None-next-clause-steps
returns-in-None-next-clause-steps g c =
    let (rest, (t, run, none)) = c.pass_over.ensures.all in
    let now = c.args.self.now in (
      c.in-Some.left ∷ rest,
      [],
      (c.pass_over.new.iter, (t, (c.next.new.self, c.in-Some.ensures.steps, run), none)),
      (c.next-in-Some.new.self, (now.right, refl, c.in-None-next.ensures.steps)),
      refl,
    )

pub returns-in-None-clause-steps : goal.returns-in-None-clause-steps
returns-in-None-clause-steps g c =
    let (rest, run) = c.pass_over-in-None.ensures.all in
    let now = c.args.self.now in (
      [],
      rest,
      (c.next.new.self, (now.left, refl, c.in-None.ensures.steps)),
      (c.pass_over-in-None.new.iter, run),
      refl,
    )
