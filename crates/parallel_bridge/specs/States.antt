-- Maps and folds whose steps have a state at hand, which goes from item to item.
use Rattle.std.specs.Prelude.{◌≡◌, ℕ, List, [], ◌∷◌, ◌++◌}
use Rattle.parallel_bridge.specs.declared.path.Path.{Path}
use Rattle.parallel_bridge.specs.declared.path.Path.TheVariants.{Serial, Parallel}
use Rattle.std.specs.Borrow.{MutBor}
use Rattle.parallel_bridge.specs.Shapes.{AlongCut, AlongLeaves, Cut, Shape}

-- answered is a call that is lent a state: s is the state before the call, t the state after it, x
-- the item, y the result
abbrev pub MapStep : {S X Y : Type 0} → (MutBor S → X → Y → MutBor S → Type 0) → S → X → Y → S
    → Type 0
MapStep {S = S} answered s x y t = (p q : MutBor S) × (p.now ≡ s) × answered p x y q × (q.now ≡ t)

-- the same of a call that also takes the value a that is folded so far, and returns the next one, b
abbrev pub FoldStep : {S X R : Type 0} → (R → MutBor S → X → R → MutBor S → Type 0) → S → R → X → R
    → S → Type 0
FoldStep {S = S} answered s a x b t = (p q : MutBor S) × (p.now ≡ s) × answered a p x b q
    × (q.now ≡ t)

-- the results ys follow from the state s by one step for each item, each step from the state that
-- the one before it left
abbrev pub StatesFrom : {S X Y : Type 0} → (S → X → Y → S → Type 0) → S → List X → List Y → Type 0
StatesFrom step s [] ys = ys ≡ []
StatesFrom step s (x ∷ xs) [] = ⊥
StatesFrom {S = S} step s (x ∷ xs) (y ∷ ys) = (t : S) × step s x y t × StatesFrom step t xs ys

-- the results follow from one fresh state
abbrev pub StateSegment : {S X Y : Type 0} → (S → Type 0) → (S → X → Y → S → Type 0) → List X
    → List Y → Type 0
StateSegment {S = S} init step xs ys = (s : S) × init s × StatesFrom step s xs ys

-- the items fall into neighbouring segments, none of them empty, and the results of each follow
-- from a fresh state of its own
pub data Stateful {S X Y : Type 0} (init : S → Type 0) (step : S → X → Y → S → Type 0) : List X
    → List Y → Type 0 where
  no_segment : Stateful init step [] []
  more_segments : (x : X) (xs rest : List X) (ys more : List Y) {all : List X} {answers : List Y}
      → all ≡ (x ∷ xs) ++ rest → answers ≡ ys ++ more
      → StateSegment init step (x ∷ xs) ys → Stateful init step rest more
      → Stateful init step all answers

-- a fresh state at each segment of a cut, and the results of two parts one after another
abbrev pub StatesAlong : {S X Y : Type 0} → (S → Type 0) → (S → X → Y → S → Type 0) → Cut X → List Y
    → Type 0
StatesAlong init step cut ys = AlongCut (StateSegment init step) (λ a b c. c ≡ a ++ b) cut ys

-- serially one fresh state for the whole list; in parallel one for each segment of the list's shape
-- of that depth
abbrev pub StatesAs : {S X Y : Type 0} → (S → Type 0) → (S → X → Y → S → Type 0) → ℕ → Path → List X
    → List Y → Type 0
StatesAs init step depth Serial xs ys = StateSegment init step xs ys
StatesAs init step depth Parallel xs ys = StatesAlong init step (Shape depth xs) ys

-- r is reached from the state s and the value a by one step for each item, left to right
abbrev pub StateChain : {S X R : Type 0} → (S → R → X → R → S → Type 0) → S → R → List X → R
    → Type 0
StateChain step s a [] r = a ≡ r
StateChain {S = S} {R = R} step s a (x ∷ xs) r = (b : R) × (t : S) × step s a x b t
    × StateChain step t b xs r

-- r is reached by a chain over all items from a fresh state and a value that identity may return
abbrev pub FoldInitSegment : {S X R : Type 0} → (S → Type 0) → (R → Type 0)
    → (S → R → X → R → S → Type 0) → List X → R → Type 0
FoldInitSegment {S = S} {R = R} init identity step xs r = (s : S) × (a : R) × init s × identity a
    × StateChain step s a xs r

-- a step from some state to some state
abbrev pub AnyState : {S X R : Type 0} → (S → R → X → R → S → Type 0) → R → X → R → Type 0
AnyState {S = S} step a x b = (s t : S) × step s a x b t

-- each segment is folded from a fresh state and an identity of its own, and reduced after a further
-- identity
abbrev pub AlongInit : {S X R : Type 0} → (S → Type 0) → (R → Type 0)
    → (S → R → X → R → S → Type 0) → (R → R → R → Type 0) → Cut X → R → Type 0
AlongInit init identity step reduce cut r =
    AlongLeaves identity (FoldInitSegment init identity step) reduce cut r
