-- One more place, whose result has room.
use Rattle.parallel_pool.proofs.{rules, one_more_answer}
use Rattle.parallel_pool.proofs.rayon.in_row.answers_of.Goals as goal

pub loop-place-preserved : goal.loop-place-preserved
loop-place-preserved g c = (
  one_more_answer c.loop-place.yielded c.in-Some.place c.loop-place.answers.items
      c.add_answer.new.answers.items c.loop-place.invariant.0 c.add_answer.ensures.items,
  search rules,
)
