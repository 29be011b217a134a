-- Facts on what a folder gives over one that may be full.
use Rattle.parallel_bridge.proofs.Common.{Bool, IsTrue, List, [], ◌∷◌, ◌++◌, refl, ap, inl, inr, false≢true, OnResults, OnValue}
use Rattle.std.specs.Prelude.{false, true}

-- where all items came to results
pub results_given : {X T O : Type 0} (fills : Bool) (results : List X → List T → Type 0)
    (gives : List T → O → Type 0) (xs : List X) (ys : List T) (out : O) → results xs ys
    → gives ys out → OnResults fills results gives xs out
results_given false results gives xs ys out r g = (ys, r, g)
results_given true results gives xs ys out r g = inl (ys, r, g)

-- where more results and more answers are allowed
pub results_wider : {X T O : Type 0} (fills : Bool) (results results' : List X → List T → Type 0)
    (gives gives' : List T → O → Type 0)
    → ((xs : List X) (ys : List T) → results xs ys → results' xs ys)
    → ((ys : List T) (out : O) → gives ys out → gives' ys out) → (xs : List X) (out : O)
    → OnResults fills results gives xs out → OnResults fills results' gives' xs out
results_wider false results results' gives gives' f h xs out (ys, r, g) =
    (ys, f xs ys r, h ys out g)
results_wider true results results' gives gives' f h xs out (inl (ys, r, g)) =
    inl (ys, f xs ys r, h ys out g)
results_wider true results results' gives gives' f h xs out (inr (first, rest, ys, same, r, g)) =
    inr (first, rest, ys, same, f first ys r, λ more. h (ys ++ more) out (g more))

-- one item more in front, whose result the folder below took
pub results_more : {X T O : Type 0} (fills : Bool) (results results' : List X → List T → Type 0)
    (gives gives' : List T → O → Type 0) (x : X) (y : T)
    → ((xs : List X) (ys : List T) → results' xs ys → results (x ∷ xs) (y ∷ ys))
    → ((ys : List T) (out : O) → gives' ys out → gives (y ∷ ys) out) → (xs : List X) (out : O)
    → OnResults fills results' gives' xs out → OnResults fills results gives (x ∷ xs) out
results_more false results results' gives gives' x y f h xs out (ys, r, g) =
    (y ∷ ys, f xs ys r, h ys out g)
results_more true results results' gives gives' x y f h xs out (inl (ys, r, g)) =
    inl (y ∷ ys, f xs ys r, h ys out g)
results_more true results results' gives gives' x y f h xs out
    (inr (first, rest, ys, same, r, g)) =
    inr (
      x ∷ first,
      rest,
      y ∷ ys,
      ap (λ l. x ∷ l) same,
      f first ys r,
      λ more. h (ys ++ more) out (g more),
    )

-- whatever comes, where the folder below is full
pub results_rest : {X T O : Type 0} (fills : Bool) (results : List X → List T → Type 0)
    (gives : List T → O → Type 0) → IsTrue fills → results [] []
    → ((ys zs : List T) (out : O) → gives ys out → gives zs out) → (xs more : List X) (out : O)
    → OnResults fills results gives xs out → OnResults fills results gives more out
results_rest false results gives full none rest xs more out h = absurd (false≢true full)
results_rest true results gives full none rest xs more out (inl (ys, r, g)) =
    inr ([], more, [], refl, none, λ zs. rest ys zs out g)
results_rest true results gives full none rest xs more out (inr (first, others, ys, same, r, g)) =
    inr ([], more, [], refl, none, λ zs. rest (ys ++ []) zs out (g []))

-- where the items came to a value
pub value_given : {X U O : Type 0} (fills : Bool) (value : List X → U → Type 0)
    (gives : List U → O → Type 0) (xs : List X) (b : U) (out : O) → value xs b
    → gives (b ∷ []) out → OnValue fills value gives xs out
value_given false value gives xs b out v g = (b, v, g)
value_given true value gives xs b out v g = inl (b, v, g)

-- where more values of other lists and more answers are allowed
pub value_wider : {X U O : Type 0} (fills : Bool) (value value' : List X → U → Type 0)
    (gives gives' : List U → O → Type 0) (xs xs' : List X)
    → ((b : U) → value xs b → value' xs' b)
    → ((bs : List U) (out : O) → gives bs out → gives' bs out) → (out : O)
    → OnValue fills value gives xs out → OnValue fills value' gives' xs' out
value_wider false value value' gives gives' xs xs' f h out (b, v, g) =
    (b, f b v, h (b ∷ []) out g)
value_wider true value value' gives gives' xs xs' f h out (inl (b, v, g)) =
    inl (b, f b v, h (b ∷ []) out g)
value_wider true value value' gives gives' xs xs' f h out (inr g) = inr (λ bs. h bs out (g bs))

-- whatever comes, where the folder below is full
pub value_rest : {X U O : Type 0} (fills : Bool) (value : List X → U → Type 0)
    (gives : List U → O → Type 0) → IsTrue fills
    → ((bs cs : List U) (out : O) → gives bs out → gives cs out) → (xs more : List X) (out : O)
    → OnValue fills value gives xs out → OnValue fills value gives more out
value_rest false value gives full rest xs more out h = absurd (false≢true full)
value_rest true value gives full rest xs more out (inl (b, v, g)) =
    inr (λ bs. rest (b ∷ []) bs out g)
value_rest true value gives full rest xs more out (inr g) = inr g
