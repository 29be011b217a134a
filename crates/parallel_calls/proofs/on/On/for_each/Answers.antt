-- Each step calls the closure.
use Rattle.std.proofs.Common.{List, rules}
use Rattle.std.specs.Prelude.{⊤}
use Rattle.std.specs.List.{All}
use Rattle.std.proofs.lemmas.List.Elements.{All-append, All-nil, All-push}
use Rattle.parallel_bridge.specs.Lists.{Bracketing}
use Rattle.parallel_bridge.proofs.Folded.{fold_has}
use Rattle.std.proofs.lemmas.Result.{IfOk-weaker}
use Rattle.parallel_calls.proofs.on.On.for_each.Goals as goal

each_called : {X : Type 0} (P : X → Type 0) (identity : ⊤ → Type 0) (step : ⊤ → X → ⊤ → Type 0)
    (reduce : ⊤ → ⊤ → ⊤ → Type 0) → ((a : ⊤) (x : X) (b : ⊤) → step a x b → P x) → (xs : List X)
    (r : ⊤) → Bracketing identity step reduce xs r → All P xs
each_called P identity step reduce says xs r brackets =
    fold_has identity step reduce (λ ys _. All P ys) (λ e i. All-nil P)
    (λ ys a x b h one. All-push P ys x h (says a x b one))
    (λ ys zs p q s h h' one. All-append P ys zs h h') brackets

pub returns-clause-called : goal.returns-clause-called
returns-clause-called g c = IfOk-weaker c.fold.result _ _ (λ r w. (
  w.0,
  w.1,
  each_called (λ x. goal.F-post g c.args.op x tt) _ _ _ (λ a x b k. search rules) w.0 r w.2,
)) c.fold.ensures.brackets
