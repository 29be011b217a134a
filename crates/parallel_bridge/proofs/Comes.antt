-- Which values come to a fold that is under way, and what a serial one asks of its closures.
use Rattle.parallel_bridge.proofs.Common.{List, [], ◌∷◌, inl, inr, Option, Result, Ok, Err, IfOk, subst, All, AllByRecursion, All-weaker, recursion_from_All, HoldsAlong, MayCome, Chain, StateChain, AnyState, TryChain}
use Rattle.parallel_bridge.proofs.CollectChains.{next_has}
use Rattle.parallel_bridge.specs.Comes.{Comes, ComesSerially, OkStep, of_identity, of_step, of_reduction}

module _ {X R : Type 0} (identity : R → Type 0) (step : R → X → R → Type 0)
    (may : X → Type 0) where
  comes_on : (xs : List X) (a b : R) → AllByRecursion may xs → ComesSerially identity step may a
      → Chain step a xs b → ComesSerially identity step may b
  comes_on [] a b each h same = subst (ComesSerially identity step may) same h
  comes_on (x ∷ xs) a b each h (m, s, rest) =
      comes_on xs m b each.1 (of_step h each.0 s) rest

  -- what a chain over items that may come reaches may come
  pub comes_along : (xs : List X) (a b : R) → All may xs → identity a → Chain step a xs b
      → ComesSerially identity step may b
  comes_along xs a b each i chain =
      comes_on xs a b (recursion_from_All may xs each) (of_identity i) chain

module _ {S X R : Type 0} (identity : R → Type 0) (step : S → R → X → R → S → Type 0)
    (may : X → Type 0) where
  comes_on_states : (xs : List X) (s : S) (a b : R) → AllByRecursion may xs
      → ComesSerially identity (AnyState step) may a → StateChain step s a xs b
      → ComesSerially identity (AnyState step) may b
  comes_on_states [] s a b each h same =
      subst (ComesSerially identity (AnyState step) may) same h
  comes_on_states (x ∷ xs) s a b each h (m, t, one, rest) =
      comes_on_states xs t m b each.1 (of_step h each.0 (s, t, one)) rest

  -- the same of a chain with a state
  pub comes_along_states : (xs : List X) (s : S) (a b : R) → All may xs → identity a
      → StateChain step s a xs b → ComesSerially identity (AnyState step) may b
  comes_along_states xs s a b each i chain =
      comes_on_states xs s a b (recursion_from_All may xs each) (of_identity i) chain

module _ {X R E : Type 0} (identity : R → Type 0) (step : R → X → Result R E → Type 0)
    (may : X → Type 0) where
  comes_on_tries : (xs : List X) (a b : R) → AllByRecursion may xs
      → ComesSerially identity (OkStep step) may a → TryChain step a xs (Ok b)
      → ComesSerially identity (OkStep step) may b
  comes_on_tries [] a b each h same =
      subst (ComesSerially identity (OkStep step) may) (cc same) h
  comes_on_tries (x ∷ xs) a b each h (inl (m, s, rest)) =
      comes_on_tries xs m b each.1 (of_step h each.0 s) rest
  comes_on_tries (x ∷ xs) a b each h (inr (e, s, same)) = absurd (cc same)

  -- what holds of each value that may come holds of what a chain of steps that may fail reaches
  pub tried_along : (K : R → Type 0) (xs : List X) (a : R) (out : Result R E) → All may xs
      → identity a → TryChain step a xs out
      → ((b : R) → ComesSerially identity (OkStep step) may b → K b) → IfOk out K
  tried_along K xs a (Ok b) each i chain f =
      f b (comes_on_tries xs a b (recursion_from_All may xs each) (of_identity i) chain)
  tried_along K xs a (Err e) each i chain f = tt

module _ {X R : Type 0} (identity : R → Type 0) (step : R → X → R → Type 0)
    (reduce reduce' : R → R → R → Type 0) (may may' : X → Type 0)
    (reduces : (a b r : R) → reduce a b r → reduce' a b r)
    (comes : (x : X) → may x → may' x) where
  -- where more items and more reductions may come, no value less does
  pub comes_wider : {r : R} → Comes identity step reduce may r → Comes identity step reduce' may' r
  comes_wider (of_identity i) = of_identity i
  comes_wider (of_step {x = x} h m s) = of_step (comes_wider h) (comes x m) s
  comes_wider (of_reduction {a = a} {b = b} {r = r} h k s) =
      of_reduction (comes_wider h) (comes_wider k) (reduces a b r s)

-- closures that accept what comes of a list accept what comes of its items one by one
pub accepts_serially : {S X R : Type 0} (steps : S → Option X → S → Type 0) (s : S)
    (may : X → Type 0) (identity : R → Type 0) (step : R → X → R → Type 0)
    (reduce : R → R → R → Type 0) (accepts : R → X → Type 0) → HoldsAlong steps s (All may)
    → ((x : X) → may x → (r : R) → Comes identity step reduce may r → accepts r x)
    → HoldsAlong steps s (All (λ x. (r : R)
    → ComesSerially identity step (MayCome steps s) r → accepts r x))
accepts_serially steps s may identity step reduce accepts along f xs t led = All-weaker may
    (λ x. (r : _) → ComesSerially identity step (MayCome steps s) r → accepts r x)
    (λ x m r h. f x m r (comes_wider identity step (λ _ _ _. ⊥) reduce (MayCome steps s) may
    (λ a b c never. absurd never)
    (λ y (before, u, v, came, one). next_has steps may s u v before y along came one) h))
    xs (along xs t led)
