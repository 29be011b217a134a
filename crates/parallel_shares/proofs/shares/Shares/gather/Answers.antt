-- Each seat that is taken in adds what it has.
use Rattle.parallel_shares.proofs.{rules, ◌∙◌, ap, subst, sym, arith, IsSeatOf, IsSharingOf, gathered, spent, some_shares, joins, joins_spaced, Gathering, gathers_one, gathers_more, each_left, the_last}
use Rattle.parallel_shares.proofs.shares.Shares.gather.Goals as goal

pub loop-seat-init : goal.loop-seat-init
loop-seat-init c =
    let shares = c.args.self.now in
    let x = c.in-Some.field-0 in
    let left = c.pop.new.self.items in
    let cut = c.in-Some.ensures.items in
    record {
      table = (the_last (IsSeatOf shares) left c.args.seats.items x cut c.requires.each).table;
      each = each_left (IsSeatOf shares) left c.args.seats.items x cut c.requires.each;
      has = gathers_one left c.args.seats.items x cut;
    }

pub join_seat-requires : goal.join_seat-requires
join_seat-requires c =
    let shares = c.args.self.now in
    let x = c.in-Some-pop.field-0 in
    let i = c.loop-seat.invariant in
    let last =
    the_last (IsSeatOf shares) c.pop-in-loop-seat.new.self.items c.loop-seat.seats.items x
    c.in-Some-pop.ensures.items i.each in (
      i.table,
      last.table,
      x.no_slots,
      omega (arith, shares.words, some_shares shares.plan shares.sound),
      rw shares.key (joins_spaced (IsSharingOf shares.plan) c.loop-seat.all.id
          c.loop-seat.all.me.0 x.seat.id x.seat.me.0 (gathered c.loop-seat.all.me.0 x.seat.me.0)
          spent (joins shares.plan shares.sound c.loop-seat.all.id x.seat.id
          c.loop-seat.all.me.0 x.seat.me.0)),
    )

pub loop-seat-preserved : goal.loop-seat-preserved
loop-seat-preserved c =
    let shares = c.args.self.now in
    let x = c.in-Some-pop.field-0 in
    let left = c.pop-in-loop-seat.new.self.items in
    let old = c.loop-seat.seats.items in
    let cut = c.in-Some-pop.ensures.items in
    let i = c.loop-seat.invariant in
    record {
      table = c.join_seat.ensures.0 ∙ i.table;
      each = each_left (IsSeatOf shares) left old x cut i.each;
      has = subst (λ v. Gathering v left c.args.seats.items)
          (sym (ap (λ m. m.0) c.join_seat.ensures.2))
          (gathers_more c.loop-seat.all.me.0 old left c.args.seats.items x i.has cut);
    }

pub returns-clause-view : goal.returns-clause-view
returns-clause-view c = search rules
