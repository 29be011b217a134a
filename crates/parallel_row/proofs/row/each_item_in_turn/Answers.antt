-- The part is the whole list.
use Rattle.parallel_row.proofs.{◌+◌, arith, refl, ChangesAt, seen_elsewhere}
use Rattle.parallel_row.proofs.row.each_item_in_turn.Goals as goal

pub returns : goal.returns
returns g c i d l = (
  refl,
  seen_elsewhere (ChangesAt g.F.Fn c.args.op.now) {i = 0 + i} (omega arith) refl refl
      (c.items_from.ensures i d l),
)
