-- The outcome of each segment is reduced after an identity, unless it is an error, and no stop
-- stands.
use Rattle.parallel_bridge.proofs.{GivesSome, IfOk, List, OnlyOk, ReducesTo, Result, Shape, TryAlong, TryAlongCut, TryFoldSegment, [], ◌∷◌, ◌∙◌, ap, arith, cutdepth, stands_for, sym}
use Rattle.parallel_bridge.proofs.{driven_unhalted, try_fold_driven, unless_weaker, unstopped}
use Rattle.parallel_bridge.proofs.Feeds.{unstopped_halts}
use Rattle.parallel_bridge.proofs.Watches.{fresh_watch, list_unstopped, not_stopped}
use Rattle.parallel_bridge.specs.Endings.{ending_of}
use Rattle.parallel_bridge.proofs.list.try_fold.try_fold_among.Goals as goal

pub bridge_watched-done-requires-clause-watch : goal.bridge_watched-done-requires-clause-watch
bridge_watched-done-requires-clause-watch g c κs within =
    fresh_watch c.in_ok-gate.gate c.in_ok-gate.seat _ (g.P.Parts.count c.args.parts)
    c.in_ok-gate.ensures.belongs c.in_ok-gate.ensures.fresh (omega (arith, c.seats_for.ensures))
    (omega (arith, c.seats_for.ensures, c.len.ensures.counted))
    (omega (arith, c.len.ensures.counted))

pub close_joined-requires-clause-all : goal.close_joined-requires-clause-all
close_joined-requires-clause-all g c =
    c.bridge_watched-done.ensures.ends.4.0 ∙ ap (λ v. v.seats) c.in_ok-gate.ensures.fresh
    ∙ sym c.in_ok-gate.ensures.seats

pub unhalt-requires : goal.unhalt-requires
unhalt-requires g c =
    let done = c.bridge_watched-done.result.0 in
    not_stopped done
    (list_unstopped (g.P.Parts.count c.args.parts) (stands_for c.in_ok-gate.seat)
    c.close_joined.result c.bridge_watched-done.result.1.seat.seat.me.0 (ending_of done)
    (omega (arith, c.len.ensures.counted)) c.bridge_watched-done.ensures.ends.4
    c.close_joined.ensures.stopped)

pub returns : goal.returns
returns g c =
    let identity = goal.ID-post g c.args.identity.now in
    let step = goal.F-post g c.args.fold_op.now in
    let reduce = goal.G-post g c.args.reduce_op.now in let gives = g.P.Parts.gives in
    let parts = c.args.parts in let depth = cutdepth c.args.threads.value in
    let result = c.unhalt.result in let has = g.D.Domain.has in
    let leaf =
    λ (xs : List g.row.P-Item.Denot) (out : Result g.row.R.Denot g.row.E.Denot).
    (v : Result g.row.R.Denot g.row.E.Denot) × TryFoldSegment identity step xs v
    × (TryFoldSegment identity (ReducesTo reduce) (v ∷ []) out × IfOk out has) in
    let node =
    λ (p : g.row.R.Denot) (q : g.row.R.Denot). OnlyOk (λ r. reduce p q r × has r) in
    record {
      along = unless_weaker result
          (λ out. GivesSome gives parts (λ xs. TryAlongCut leaf node (Shape depth xs) out))
          (λ out. GivesSome gives parts
          (λ xs. TryAlong identity step reduce (Shape depth xs) out))
          (λ out h. (
            h.0,
            h.1,
            try_fold_driven identity (TryFoldSegment identity step) reduce has (Shape depth h.0) out
                h.2,
          ))
          (driven_unhalted leaf node (λ p. unstopped (node p)) (λ p. unstopped_halts (node p))
          gives parts depth c.bridge_watched-done.result.0 result
          c.bridge_watched-done.ensures.along c.unhalt.ensures);
    }
