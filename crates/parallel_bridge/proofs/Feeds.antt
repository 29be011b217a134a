-- For the loop that feeds a folder: one look more, and what is said of a part where a stop may
-- stand in the place of anything, or of nothing.
use Rattle.parallel_bridge.proofs.Common.{ℕ, ◌+◌, List, [], ◌∷◌, ◌++◌, length, Result, Ok, Err, subst, arith, length-append}
use Rattle.parallel_bridge.proofs.Common.{Halt, Failed, Stopped, halting, unstopped}
use Rattle.parallel_bridge.specs.Endings.{LooksMore, LooksOnce}

-- where more is allowed, more may be given
module _ {A R E : Type 0} (P Q : A → Result R E → Type 0) where
  pub halting_weaker : (a b : A) → ((out : Result R E) → P a out → Q b out)
      → (out : Result R (Halt E)) → halting P a out → halting Q b out
  halting_weaker a b f (Ok r) h = f (Ok r) h
  halting_weaker a b f (Err (Failed e)) h = f (Err e) h
  halting_weaker a b f (Err Stopped) h = tt

  pub unstopped_weaker : (a : A) → ((out : Result R E) → P a out → Q a out)
      → (out : Result R (Halt E)) → unstopped P a out → unstopped Q a out
  unstopped_weaker a f (Ok r) h = f (Ok r) h
  unstopped_weaker a f (Err (Failed e)) h = f (Err e) h
  unstopped_weaker a f (Err Stopped) h = h

-- what may be given where no stop may may be given where one may
pub unstopped_halts : {A R E : Type 0} (P : A → Result R E → Type 0) (a : A)
    (out : Result R (Halt E)) → unstopped P a out → halting P a out
unstopped_halts P a (Ok r) h = h
unstopped_halts P a (Err (Failed e)) h = h
unstopped_halts P a (Err Stopped) h = tt

-- one item more, and one look after it
pub looked_more : {W X : Type 0} (looked : W → ℕ → W → Type 0) (old mid new : W) (xs : List X)
    (x : X) → LooksMore looked (length xs) old mid → LooksOnce looked mid new
    → LooksMore looked (length (xs ++ x ∷ [])) old new
looked_more looked old mid new xs x looks once first count h =
    let long = length-append xs (x ∷ []) in
    subst (λ n. looked first n new) (omega (arith, long))
    (once first (count + length xs) (looks first count h))
