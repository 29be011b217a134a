-- The exchange keeps what words and seats keep together.
use Rattle.parallel_shares.proofs.{arith, share_of, takes_front, share_exists}
use Rattle.parallel_shares.proofs.shares.Shares.take_front.Goals as goal

pub compare_exchange-requires : goal.compare_exchange-requires
compare_exchange-requires c =
    let shares = c.args.self.now in
    let seat = c.args.seat.now in
    let asks = c.requires.seat in
    let exists = share_exists shares.plan seat.index asks.index in (
      asks.table,
      omega (arith, shares.words, c.own_place-place.ensures, exists),
      rw (shares.key, c.own_place-place.ensures) (takes_front shares.plan shares.sound
          shares.table.shared.table_id.slots seat.seat.id (share_of shares.plan seat.index)
          seat.index c.args.word c.args.next seat.seat.me asks.plan seat.owns exists
          c.requires.within c.requires.some c.requires.front),
    )
