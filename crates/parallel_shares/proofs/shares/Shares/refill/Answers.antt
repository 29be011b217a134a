-- The store keeps what words and seats keep together: the seat has seen its own word empty.
use Rattle.parallel_shares.proofs.{rules, ◌≡◌, ◌<◌, ◌∙◌, Some, [], ◌∷◌, cond, ap, sym, subst, arith, shares_of, share_of, Carries, ranges_of, puts_down, share_exists}
use Rattle.parallel_shares.proofs.shares.Shares.refill.Goals as goal

pub store-requires : goal.store-requires
store-requires c =
    let shares = c.args.self.now in
    let plan = shares.plan in
    let seat = c.args.seat.now in
    let asks = c.requires.belongs in
    let units = c.in-Some.units in
    let transit : seat.transit ≡ Some units = sym c.in_transit.ensures ∙ c.in-Some.is in
    let carried = subst (Carries plan seat.own_empty) transit asks.carries in
    let own : share_of plan seat.index ≡ seat.index = ap (λ b. cond b 0 seat.index) carried.3 in
    let exists : seat.index < shares_of plan =
    subst (λ n. n < shares_of plan) own (share_exists plan seat.index asks.index) in (
      asks.table,
      omega (arith, shares.words, c.own_place-place.ensures, own, exists),
      rw (shares.key, c.own_place-place.ensures) (puts_down plan shares.sound
          shares.table.shared.table_id.slots seat.seat.id (share_of plan seat.index) seat.index
          units c.pack-word.result seat.seat.me seat.owns
          (seat.empties ∙ ap (λ b. cond b (seat.index ∷ []) []) carried.2)
          (seat.carries ∙ ap ranges_of transit) carried.3 carried.0 carried.1 exists own
          c.pack-word.ensures),
    )

pub returns-clause-stored : goal.returns-clause-stored
returns-clause-stored c = search rules
