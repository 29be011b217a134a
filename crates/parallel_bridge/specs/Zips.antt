-- What comes of two lists pair by pair, and of a list with its indices.
use Rattle.std.specs.Prelude.{◌≡◌, List, [], Option, Some, MatchOption}
use Rattle.std.specs.Borrow.{Bor}
use Rattle.std.specs.Iterator.{Drains}
use Rattle.std.specs.List.{zip}
use Rattle.parallel_bridge.specs.declared.zipped.ZippedIter.{ZippedIter}

-- the pairs of a list that the first gives and one that the second gives
abbrev pub PairsOf : {A B : Type 0} → (List A → Type 0) → (List B → Type 0) → List (A × B) → Type 0
PairsOf {A = A} {B = B} first second zs = (xs : List A) × (ys : List B) × first xs × second ys
    × (zs ≡ zip xs ys)

-- a call gave an item of each side; or one side had none left, and the other was gone through
abbrev pub zipped_steps : {S T A B : Type 0} → (S → Option A → S → Type 0)
    → (T → Option B → T → Type 0) → ZippedIter S T → Option (A × B) → ZippedIter S T → Type 0
zipped_steps {A = A} {B = B} steps others s r t = MatchOption r
    ((xs : List A) × (ys : List B) × Drains steps s.left xs × Drains others s.right ys
    × (zip xs ys ≡ []))
    (λ z. steps s.left (Some z.0) t.left × others s.right (Some z.1) t.right)

-- the two values that a pair lends
abbrev pub both : {A B : Type 0} → Bor A × Bor B → A × B
both z = (z.0.now, z.1.now)
