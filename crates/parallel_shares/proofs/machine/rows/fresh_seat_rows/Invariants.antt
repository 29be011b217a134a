-- As many fresh records as seats so far.
use Rattle.parallel_shares.proofs.{◌≡◌, replicate, fresh}
use Rattle.parallel_shares.proofs.machine.rows.fresh_seat_rows.Given as goal

abbrev pub invariant-loop-seat : goal.invariant-loop-seat
invariant-loop-seat l = l.rows.items ≡ replicate l._seat fresh
