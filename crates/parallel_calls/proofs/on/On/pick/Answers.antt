-- A step and a reduction pick one of two, of items that may come.
use Rattle.std.proofs.Common.{rules}
use Rattle.std.proofs.lemmas.Result.{IfOk-weaker}
use Rattle.parallel_calls.specs.Extremes.{beats}
use Rattle.parallel_calls.proofs.Picks.{accepts_items, beats_wins, item_may, pick_may, pick_of_fold}
use Rattle.parallel_calls.proofs.on.On.pick.Goals as goal

pub fold-requires-clause-fold_accepts : goal.fold-requires-clause-fold_accepts
fold-requires-clause-fold_accepts g c = λ κs bounds x within value comes.
    accepts_items (g.I.Source.may c.args.source) (λ a b. goal.C-pre g c.args.compare a b)
    c.requires.accepts value _
    (pick_may (g.I.Source.may c.args.source) _ _ _ (λ e k. search rules) (λ a y b k. search rules)
    (λ a b r k. search rules) value comes) (item_may (g.I.Source.may c.args.source) x within)

pub fold-requires-clause-reduce_accepts : goal.fold-requires-clause-reduce_accepts
fold-requires-clause-reduce_accepts g c = λ κs bounds left right comes follows.
    accepts_items (g.I.Source.may c.args.source) (λ a b. goal.C-pre g c.args.compare a b)
    c.requires.accepts left right
    (pick_may (g.I.Source.may c.args.source) _ _ _ (λ e k. search rules) (λ a y b k. search rules)
    (λ a b r k. search rules) left comes)
    (pick_may (g.I.Source.may c.args.source) _ _ _ (λ e k. search rules) (λ a y b k. search rules)
    (λ a b r k. search rules) right follows)

pub returns-clause-pick : goal.returns-clause-pick
returns-clause-pick g c lt order says = IfOk-weaker c.fold.result _ _ (λ r w. (
  w.0,
  w.1,
  pick_of_fold (beats c.args.is_least lt) (beats_wins c.args.is_least lt order) _ _ _
      (λ e k. search rules) (λ a x b k. search rules) (λ a b s k. search rules) w.0 r w.2,
)) c.fold.ensures.brackets
