-- The exchange keeps what words and seats keep together.
use Rattle.parallel_shares.proofs.{◌∙◌, ap, arith, ranges_of, takes_back}
use Rattle.parallel_shares.proofs.shares.Shares.take_back.Goals as goal

pub compare_exchange-found-requires : goal.compare_exchange-found-requires
compare_exchange-found-requires c =
    let shares = c.args.self.now in
    let seat = c.args.seat.now in
    let asks = c.requires.belongs in (
      asks.table,
      omega (arith, shares.words, c.place-place.ensures, c.requires.exists),
      rw (shares.key, c.place-place.ensures) (takes_back shares.plan shares.sound
          shares.table.shared.table_id.slots seat.seat.id c.args.victim.share seat.index
          c.args.victim.word c.back-next.result.1 seat.seat.me seat.owns
          (seat.carries ∙ ap ranges_of c.requires.empty_handed) c.requires.exists
          c.requires.within c.requires.pays c.back-next.ensures.left),
    )
