-- Each try loads no share less often, and what ends without a claim looked round.
use Rattle.parallel_shares.proofs.{◌∙◌, grows_from, found_since}
use Rattle.parallel_shares.proofs.shares.Shares.claim.Goals as goal

pub returns-in-Nothing-clause-answer : goal.returns-in-Nothing-clause-answer
returns-in-Nothing-clause-answer g c =
    let i = c.loop.invariant in
    let gained = c.in-Nothing.ensures.answer in
    let settled = c.settle.ensures in (
      gained.0 ∙ settled.claims ∙ i.claims,
      found_since c.args.self.now c.args.seat.now c.settle.new.seat c.try_each.new.seat
          (settled.index ∙ i.index)
          (grows_from c.args.seat.now c.loop.seat c.settle.new.seat i.loads settled.loads)
          gained.1,
    )
