-- Each seat that is taken in adds what it has.
use Rattle.parallel_bridge.proofs.{arith, sym, subst, IsGateSeatOf, Gathering, gathers_one, gathers_more, gathers_all, all_before, still_within}
use Rattle.parallel_bridge.proofs.gate.Gate.gather.Goals as goal

pub loop-seat-init : goal.loop-seat-init
loop-seat-init c =
    let all = c.args.seats.items in let rest = c.pop.new.self.items in let x = c.in-Some.all in
    let cut = c.in-Some.ensures.items in
    let each = all_before (IsGateSeatOf c.args.self.now) all rest x cut c.requires.0 in
    record {
      belongs = each.1;
      each = each.0;
      within = (still_within all rest all x cut (λ seat h. h)).0;
      has = gathers_one rest all x cut;
    }

pub join-requires-clause-other : goal.join-requires-clause-other
join-requires-clause-other c = (all_before (IsGateSeatOf c.args.self.now) c.loop-seat.seats.items
    c.pop-in-loop-seat.new.self.items c.in-Some-pop.seat c.in-Some-pop.ensures.items
    c.loop-seat.invariant.each).1

pub loop-seat-preserved : goal.loop-seat-preserved
loop-seat-preserved c =
    let all = c.args.seats.items in let old = c.loop-seat.seats.items in
    let rest = c.pop-in-loop-seat.new.self.items in let x = c.in-Some-pop.seat in
    let cut = c.in-Some-pop.ensures.items in let i = c.loop-seat.invariant in
    let inside = still_within old rest all x cut i.within in
    record {
      belongs = c.join.ensures.belongs;
      each = (all_before (IsGateSeatOf c.args.self.now) old rest x cut i.each).0;
      within = inside.0;
      has = subst (λ v. Gathering v rest all) (sym c.join.ensures.gathered)
          (gathers_more c.loop-seat.all.seat.me.0 old rest all x i.has inside.1 cut);
    }

pub returns-clause-at_most : goal.returns-clause-at_most
returns-clause-at_most c =
    gathers_all c.loop-seat.all.seat.me.0 c.loop-seat.seats.items c.args.seats.items
    c.loop-seat.invariant.has (omega (arith, c.in_default-pop.ensures))
