-- What is known of each call that is lent a state, along the segments of a list.
use Rattle.commonware_parallel.proofs.Common.{◌≡◌, List, [], ◌∷◌, subst, MutBor, MapStep, StatesFrom, Stateful, no_segment, more_segments}

module _ {S X Y : Type 0} (init : S → Type 0) (answered : MutBor S → X → Y → MutBor S → Type 0)
    (step : S → X → Y → S → Type 0) (says : (p : MutBor S) (x : X) (y : Y) (q : MutBor S)
    → answered p x y q → step p.now x y q.now) where
  step_of_call : (s : S) (x : X) (y : Y) (t : S) → MapStep answered s x y t → step s x y t
  step_of_call s x y t (p, q, before, h, after) =
      subst (λ u. step u x y t) before (subst (λ u. step p.now x y u) after (says p x y q h))

  states_of_steps : (s : S) (xs : List X) (ys : List Y) → StatesFrom (MapStep answered) s xs ys
      → StatesFrom step s xs ys
  states_of_steps s [] ys none = none
  states_of_steps s (x ∷ xs) [] wrong = absurd wrong
  states_of_steps s (x ∷ xs) (y ∷ ys) (t, h, rest) =
      (t, step_of_call s x y t h, states_of_steps t xs ys rest)

  segments_of_steps : {xs : List X} {ys : List Y} → Stateful init (MapStep answered) xs ys
      → Stateful init step xs ys
  segments_of_steps no_segment = no_segment
  segments_of_steps (more_segments x xs rest ys more at answers (s, fresh, h) tail) =
      more_segments x xs rest ys more at answers (s, fresh, states_of_steps s (x ∷ xs) ys h)
      (segments_of_steps tail)

  -- of the list that came
  pub stateful_steps : (items : List X) (ys : List Y) → (xs : List X) × (xs ≡ items)
      × Stateful init (MapStep answered) xs ys → Stateful init step items ys
  stateful_steps items ys (xs, came, h) =
      subst (λ l. Stateful init step l ys) came (segments_of_steps h)
