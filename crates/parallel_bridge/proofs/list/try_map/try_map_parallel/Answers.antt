-- What was written into the segments' rooms, side by side, or the leftmost error, which is no stop.
use Rattle.parallel_bridge.proofs.{Shape, cutdepth, Driven, GivesSome, EachOk, FirstErr, TryAlongCut, TryMapOf, Ok, subst, sym, ap, ◌∙◌, arith, Answered, OneAfterAnother, written, stands_for}
use Rattle.parallel_bridge.proofs.{tried_error, tried_shape}
use Rattle.parallel_bridge.proofs.Watches.{filled_unhalted, fresh_watch, list_unstopped, not_stopped}
use Rattle.parallel_bridge.specs.Endings.{ending_of}
use Rattle.parallel_bridge.proofs.list.try_map.try_map_parallel.Goals as goal

pub fill_watched-values-requires-clause-watch : goal.fill_watched-values-requires-clause-watch
fill_watched-values-requires-clause-watch g c κs within =
    fresh_watch c.in_ok-gate.gate c.in_ok-gate.seat _ (g.P.Parts.count c.args.parts)
    c.in_ok-gate.ensures.belongs c.in_ok-gate.ensures.fresh (omega (arith, c.seats_for.ensures))
    (omega (arith, c.seats_for.ensures, c.len-len.ensures.counted))
    (omega (arith, c.len-len.ensures.counted))

pub close_joined-requires-clause-all : goal.close_joined-requires-clause-all
close_joined-requires-clause-all g c =
    c.fill_watched-values.ensures.ends.4.0 ∙ ap (λ v. v.seats) c.in_ok-gate.ensures.fresh
    ∙ sym c.in_ok-gate.ensures.seats

pub unhalt-requires : goal.unhalt-requires
unhalt-requires g c =
    let done = c.fill_watched-values.result.1 in
    not_stopped done
    (list_unstopped (g.P.Parts.count c.args.parts) (stands_for c.in_ok-gate.seat)
    c.close_joined.result c.fill_watched-values.result.2.seat.seat.me.0 (ending_of done)
    (omega (arith, c.len-len.ensures.counted)) c.fill_watched-values.ensures.ends.4
    c.close_joined.ensures.stopped)

pub returns-in-Ok : goal.returns-in-Ok
returns-in-Ok g c =
    let allowed = goal.F-post g c.args.map_op.now in
    let leaf = Answered {S = Unit {0}} (λ l s ys. EachOk allowed l ys) (FirstErr allowed) in
    let gives = g.P.Parts.gives in let depth = cutdepth c.args.threads.value in
    let values = c.fill_watched-values.result.0 in let done = c.fill_watched-values.result.1 in
    let after = c.unhalt.result in
    let all : Driven gives c.args.parts leaf OneAfterAnother depth (written values after) =
    (filled_unhalted gives c.args.parts leaf depth c.in_ok-room.room values done after
    c.unhalt.ensures c.fill_watched-values.ensures.filled).2 in
    let w : GivesSome gives c.args.parts
    (λ xs. TryAlongCut leaf OneAfterAnother (Shape depth xs) (Ok values.items)) =
    subst (λ d. Driven gives c.args.parts leaf OneAfterAnother depth (written values d)) c.in-Ok.is
    all in
    record {
      maps = (
        w.0,
        w.1,
        subst (λ l. TryMapOf allowed w.0 (Ok l)) (sym c.into_vec.ensures)
            (tried_shape allowed depth w.0 (Ok values.items) w.2),
      );
    }

pub returns-in-Err : goal.returns-in-Err
returns-in-Err g c =
    let allowed = goal.F-post g c.args.map_op.now in
    let leaf = Answered {S = Unit {0}} (λ l s ys. EachOk allowed l ys) (FirstErr allowed) in
    let gives = g.P.Parts.gives in let depth = cutdepth c.args.threads.value in
    let values = c.fill_watched-values.result.0 in let done = c.fill_watched-values.result.1 in
    let after = c.unhalt.result in
    let all : Driven gives c.args.parts leaf OneAfterAnother depth (written values after) =
    (filled_unhalted gives c.args.parts leaf depth c.in_ok-room.room values done after
    c.unhalt.ensures c.fill_watched-values.ensures.filled).2 in
    record {
      maps = tried_error allowed gives c.args.parts depth c.in-Err.trouble
          (subst (λ d. Driven gives c.args.parts leaf OneAfterAnother depth (written values d))
          c.in-Err.is all);
    }
