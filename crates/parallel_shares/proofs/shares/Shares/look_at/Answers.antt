-- The load keeps what words and seats keep together.
use Rattle.parallel_shares.proofs.{arith, looks_at}
use Rattle.parallel_shares.proofs.shares.Shares.look_at.Goals as goal

pub load-requires : goal.load-requires
load-requires c =
    let shares = c.args.self.now in
    let seat = c.args.seat.now in (
      c.requires.belongs.table,
      omega (arith, shares.words, c.place-place.ensures, c.requires.exists),
      rw (shares.key, c.place-place.ensures) (looks_at shares.plan shares.sound
          shares.table.shared.table_id.slots seat.seat.id c.args.share seat.index seat.seat.me
          c.requires.belongs.plan seat.owns),
    )
