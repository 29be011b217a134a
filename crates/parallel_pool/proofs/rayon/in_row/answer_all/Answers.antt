-- What a call leaves in its place is a result for the item.
use Rattle.std.proofs.Common.{refl}
use Rattle.parallel_pool.specs.InRow.{AnswersPlace}
use Rattle.parallel_row.proofs.Parts.{seen_elsewhere}
use Rattle.parallel_pool.proofs.rayon.in_row.answer_all.Goals as goal

pub returns : goal.returns
returns g c =
    record {
      each =
          λ i d l.
          let at = (c.each_item.ensures i d l).1 in
          seen_elsewhere (λ _. AnswersPlace g.F.Fn c.args.op.now) {i = i} refl at.argument_is at.left
          at.call;
    }
