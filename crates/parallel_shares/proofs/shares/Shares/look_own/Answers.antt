-- The load keeps what words and seats keep together.
use Rattle.parallel_shares.proofs.{arith, refl, share_of, looks_own, share_exists}
use Rattle.parallel_shares.proofs.shares.Shares.look_own.Goals as goal

pub load-word-requires : goal.load-word-requires
load-word-requires c =
    let shares = c.args.self.now in
    let seat = c.args.seat.now in
    let exists = share_exists shares.plan seat.index c.requires.index in (
      c.requires.table,
      omega (arith, shares.words, c.own_place-place.ensures, exists),
      rw (shares.key, c.own_place-place.ensures) (looks_own shares.plan shares.sound
          shares.table.shared.table_id.slots seat.seat.id (share_of shares.plan seat.index)
          seat.index seat.seat.me c.requires.plan seat.owns refl),
    )
