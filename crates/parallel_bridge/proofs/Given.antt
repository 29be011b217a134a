-- Which values a consumer may give.
use Rattle.parallel_bridge.proofs.Common.{Bool, List, [], ◌∷◌, ◌++◌, Result, Ok, IfOk, inl, inr, Cut, segment, halves, TryAlongCut, OnResults, OnValue, OnlyOk, halting, unstopped}
use Rattle.std.specs.Prelude.{false, true}
use Rattle.parallel_bridge.specs.Comes.{Given}

-- what goes along a cut is given by a segment or by two parts
pub given_along : {X R E : Type 0} (leaf : List X → Result R E → Type 0)
    (node : R → R → Result R E → Type 0) (cut : Cut X) (r : R)
    → TryAlongCut (halting leaf) (λ a. unstopped (node a)) cut (Ok r) → Given leaf node r
given_along leaf node (segment xs) r h = inl (xs, h)
given_along leaf node (halves p q) r (inl (a, b, h, k, n)) = inr (a, b, n)
given_along leaf node (halves p q) r (inr (inl (e, same, h))) = absurd (cc same)
given_along leaf node (halves p q) r (inr (inr (a, e, same, h, k))) = absurd (cc same)

-- what a consumer gives that maps is what its base gives
pub given_results : {X T R E : Type 0} (fills : Bool) (results : List X → List T → Type 0)
    (gives : List T → Result R E → Type 0) (node : R → R → Result R E → Type 0) (r : R)
    → Given (λ xs out. OnResults fills results gives xs out) node r → Given gives node r
given_results false results gives node r (inl (xs, (ys, h, g))) = inl (ys, g)
given_results true results gives node r (inl (xs, inl (ys, h, g))) = inl (ys, g)
given_results true results gives node r (inl (xs, inr (first, rest, ys, same, h, g))) =
    inl (ys ++ [], g [])
given_results fills results gives node r (inr h) = inr h

-- so is what one gives that folds
pub given_value : {X U R E : Type 0} (fills : Bool) (value : List X → U → Type 0)
    (gives : List U → Result R E → Type 0) (node : R → R → Result R E → Type 0) (r : R)
    → Given (λ xs out. OnValue fills value gives xs out) node r → Given gives node r
given_value false value gives node r (inl (xs, (b, v, g))) = inl (b ∷ [], g)
given_value true value gives node r (inl (xs, inl (b, v, g))) = inl (b ∷ [], g)
given_value true value gives node r (inl (xs, inr g)) = inl ([], g [])
given_value fills value gives node r (inr h) = inr h

-- what a reduction gives is one of the values that it stays among
pub given_has : {X R : Type 0} (E : Type 0) (has : R → Type 0) (leaf : List X → R → Type 0)
    (node : R → R → R → Type 0) (r : R)
    → Given {E = E} (λ xs out. OnlyOk (λ v. leaf xs v × has v) out)
    (λ a b out. OnlyOk (λ v. node a b v × has v) out) r → has r
given_has E has leaf node r (inl (xs, h)) = h.1
given_has E has leaf node r (inr (a, b, h)) = h.1

pub given_ok : {X R E : Type 0} (has : R → Type 0) (leaf : List X → Result R E → Type 0)
    (node : R → R → R → Type 0) (r : R) → Given (λ xs out. leaf xs out × IfOk out has)
    (λ a b out. OnlyOk (λ v. node a b v × has v) out) r → has r
given_ok has leaf node r (inl (xs, h)) = h.1
given_ok has leaf node r (inr (a, b, h)) = h.1
