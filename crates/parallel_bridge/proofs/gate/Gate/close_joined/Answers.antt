-- The seat that stands for all knows of all that was told.
use Rattle.parallel_bridge.proofs.{final_keeps, final_told, final_stopped}
use Rattle.parallel_bridge.proofs.gate.Gate.close_joined.Goals as goal

pub returns-clause-told : goal.returns-clause-told
returns-clause-told c =
    let last = c.close_with-closed.ensures.values.2 in let s = last.0 in
    final_told c.args.self.table.shared.key c.word-word.result s.views c.args.seat.seat.id
    c.args.seat.seat.me.0 (final_keeps c.args.self.table.shared.key c.word-word.result last.1.0
    last.2 c.word-word.ensures) last.1.1 c.requires.all

pub returns-clause-at_most : goal.returns-clause-at_most
returns-clause-at_most c =
    let last = c.close_with-closed.ensures.values.2 in
    let fits = (final_keeps c.args.self.table.shared.key c.word-word.result last.1.0 last.2
    c.word-word.ensures).fits c.args.seat.seat.id c.args.seat.seat.me.0 last.1.1 in
    (fits.told, fits.seen)

pub returns-clause-stopped : goal.returns-clause-stopped
returns-clause-stopped c start small less =
    final_stopped c.word-word.result start c.args.seat.seat.me.0 (returns-clause-told c)
    (returns-clause-at_most c) small less
