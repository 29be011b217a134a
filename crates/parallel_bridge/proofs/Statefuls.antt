-- Whichever way states go along a list, its results fall into segments, each from a fresh state.
use Rattle.parallel_bridge.proofs.Common.{ℕ, List, [], ◌∷◌, ◌++◌, sym, ◌∙◌, ap, subst, append_assoc, append-nil, Path, Serial, Parallel, Cut, segment, halves, cut_items, Shape, StateSegment, Stateful}
use Rattle.parallel_bridge.proofs.Common.{no_segment, more_segments, StatesAlong, StatesAs}
use Rattle.parallel_bridge.proofs.Shapes.{Shape-items}

module _ {S X Y : Type 0} (init : S → Type 0) (step : S → X → Y → S → Type 0) where
  -- one fresh state for the whole list
  pub stateful_from_segment : (xs : List X) (ys : List Y) → StateSegment init step xs ys
      → Stateful init step xs ys
  stateful_from_segment [] ys (s, fresh, none) = subst (Stateful init step []) (sym none) no_segment
  stateful_from_segment (x ∷ xs) ys h =
      more_segments x xs [] ys [] (sym (append-nil (x ∷ xs))) (sym (append-nil ys)) h no_segment

  -- two neighbouring parts
  pub Stateful-append : {xs xs' : List X} {ys ys' : List Y} → Stateful init step xs ys
      → Stateful init step xs' ys' → Stateful init step (xs ++ xs') (ys ++ ys')
  Stateful-append no_segment k = k
  Stateful-append {xs' = xs'} {ys' = ys'} (more_segments x xs rest ys more at answers h tail) k =
      more_segments x xs (rest ++ xs') ys (more ++ ys')
      (ap (λ l. l ++ xs') at ∙ append_assoc (x ∷ xs) rest xs')
      (ap (λ l. l ++ ys') answers ∙ append_assoc ys more ys') h (Stateful-append tail k)

  -- a fresh state at each segment of a cut
  pub stateful_from_along : (cut : Cut X) (ys : List Y) → StatesAlong init step cut ys
      → Stateful init step (cut_items cut) ys
  stateful_from_along (segment xs) ys h = stateful_from_segment xs ys h
  stateful_from_along (halves p q) ys (a, b, h, i, joined) = rw joined
      (Stateful-append (stateful_from_along p a h) (stateful_from_along q b i))

  -- the same along the shape of a list
  pub stateful_from_shape : (depth : ℕ) (xs : List X) (ys : List Y)
      → StatesAlong init step (Shape depth xs) ys → Stateful init step xs ys
  stateful_from_shape depth xs ys h = subst (λ l. Stateful init step l ys) (Shape-items depth xs)
      (stateful_from_along (Shape depth xs) ys h)

  -- whichever path was taken
  pub stateful_from_states : (depth : ℕ) (path : Path) (xs : List X) (ys : List Y)
      → StatesAs init step depth path xs ys → Stateful init step xs ys
  stateful_from_states depth Serial xs ys h = stateful_from_segment xs ys h
  stateful_from_states depth Parallel xs ys h = stateful_from_shape depth xs ys h
