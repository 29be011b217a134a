-- Under the laws of `FoldLaws` a fold by segments is the plain fold from the left.
use Rattle.parallel_bridge.proofs.Common.{◌≡◌, Bool, IsTrue, List, [], ◌∷◌, ◌++◌, refl, sym, ◌∙◌, ap, subst, fold, map, All, Contains, fold-append, All-nil, All-cons, All-head, All-tail}
use Rattle.parallel_bridge.proofs.Common.{All-contains_itself, MapOf, Chain, FoldSegment, Brackets, of_segment, of_parts, Bracketing, StateChain, FoldInitSegment, AnyState, FoldLaws, IsPlainFold}

-- what holds of all items of two parts holds of each part's
pub all_left : {X : Type 0} (P : X → Type 0) (xs ys : List X) → All P (xs ++ ys) → All P xs
all_left P [] ys h = All-nil P
all_left P (x ∷ xs) ys h =
    All-cons P x xs (All-head P x (xs ++ ys) h) (all_left P xs ys (All-tail P x (xs ++ ys) h))

pub all_right : {X : Type 0} (P : X → Type 0) (xs ys : List X) → All P (xs ++ ys) → All P ys
all_right P [] ys h = h
all_right P (x ∷ xs) ys h = all_right P xs ys (All-tail P x (xs ++ ys) h)

module _ {X R : Type 0} (identity : R → Type 0) (step : R → X → R → Type 0)
    (reduce : R → R → R → Type 0) (unit : R) (f : R → X → R) (g : R → R → R) (good : R → Bool)
    (all : List X) (laws : FoldLaws identity step reduce unit f g good all) where
  -- a fold of good values is good
  fold_good : (ys : List X) → All (Contains all) ys → (a : R) → IsTrue (good a)
      → IsTrue (good (fold f a ys))
  fold_good [] within a h = h
  fold_good (y ∷ ys) within a h = fold_good ys (All-tail (Contains all) y ys within) (f a y)
      (laws.good_step a y h (All-head (Contains all) y ys within))

  -- a reduction's left side may go into the fold of its right side
  fold_out : (ys : List X) → All (Contains all) ys → (a b : R) → IsTrue (good a) → IsTrue (good b)
      → g a (fold f b ys) ≡ fold f (g a b) ys
  fold_out [] within a b h i = refl
  fold_out (y ∷ ys) within a b h i =
      let one = All-head (Contains all) y ys within in
      fold_out ys (All-tail (Contains all) y ys within) a (f b y) h (laws.good_step b y i one)
      ∙ ap (λ v. fold f v ys) (sym (laws.passes a b y h i one))

  -- a chain of steps is the plain fold
  chain_plain : (ys : List X) → All (Contains all) ys → (a r : R) → IsTrue (good a)
      → Chain step a ys r → r ≡ fold f a ys
  chain_plain [] within a r h e = sym e
  chain_plain (y ∷ ys) within a r h (m, s, rest) =
      let one = All-head (Contains all) y ys within in
      let same : m ≡ f a y = laws.steps a y m h one s in
      let next : IsTrue (good m) =
      subst (λ v. IsTrue (good v)) (sym same) (laws.good_step a y h one) in
      chain_plain ys (All-tail (Contains all) y ys within) m r next rest
      ∙ ap (λ v. fold f v ys) same

  -- each way of folding by neighbouring segments gives the plain fold
  brackets_plain : {ys : List X} {r : R} → All (Contains all) ys
      → Brackets (FoldSegment identity step) reduce ys r → r ≡ fold f unit ys
  brackets_plain {ys} {r} within (of_segment (e, i, chain)) =
      let same : e ≡ unit = laws.starts e i in
      chain_plain ys within unit r laws.good_unit (subst (λ v. Chain step v ys r) same chain)
  brackets_plain {ys = zs} {r} within
      (of_parts {xs = xs} {ys = ys} {p = p} {q = q} split left right reduced) =
      let both : All (Contains all) (xs ++ ys) = subst (All (Contains all)) split within in
      let in_left = all_left (Contains all) xs ys both in
      let in_right = all_right (Contains all) xs ys both in
      let p_is : p ≡ fold f unit xs = brackets_plain in_left left in
      let q_is : q ≡ fold f unit ys = brackets_plain in_right right in
      let p_good : IsTrue (good p) =
      subst (λ v. IsTrue (good v)) (sym p_is) (fold_good xs in_left unit laws.good_unit) in
      let q_good : IsTrue (good q) =
      subst (λ v. IsTrue (good v)) (sym q_is) (fold_good ys in_right unit laws.good_unit) in
      laws.reduces p q r p_good q_good reduced ∙ ap (λ v. g p v) q_is
      ∙ fold_out ys in_right p unit p_good laws.good_unit
      ∙ ap (λ v. fold f v ys) (laws.neutral p p_good ∙ p_is) ∙ sym (fold-append f unit xs ys)
      ∙ ap (fold f unit) (sym split)

module _ {X R : Type 0} (identity : R → Type 0) (step : R → X → R → Type 0)
    (reduce : R → R → R → Type 0) where
  -- the law as its public function states it
  pub plain_from_bracketing : (xs : List X) (r : R) → Bracketing identity step reduce xs r
      → IsPlainFold identity step reduce xs r
  plain_from_bracketing xs r h unit f g good laws =
      brackets_plain identity step reduce unit f g good xs laws (All-contains_itself xs) h

-- a fold with a state is a fold by steps from any state to any state
module _ {S X R : Type 0} (init : S → Type 0) (identity : R → Type 0)
    (step : S → R → X → R → S → Type 0) (reduce : R → R → R → Type 0) where
  any_chain : (s : S) (a : R) (xs : List X) (r : R) → StateChain step s a xs r
      → Chain (AnyState step) a xs r
  any_chain s a [] r h = h
  any_chain s a (x ∷ xs) r (b, t, one, h) = (b, (s, t, one), any_chain t b xs r h)

  any_brackets : {xs : List X} {r : R} → Brackets (FoldInitSegment init identity step) reduce xs r
      → Brackets (FoldSegment identity (AnyState step)) reduce xs r
  any_brackets {xs} {r} (of_segment (s, a, made, first, chain)) =
      of_segment (a, first, any_chain s a xs r chain)
  any_brackets (of_parts split left right reduced) =
      of_parts split (any_brackets left) (any_brackets right) reduced

  -- under the laws for any state it is the plain fold
  pub plain_from_states : (xs : List X) (r : R)
      → Brackets (FoldInitSegment init identity step) reduce xs r
      → IsPlainFold identity (AnyState step) reduce xs r
  plain_from_states xs r h =
      plain_from_bracketing identity (AnyState step) reduce xs r (any_brackets h)

-- results that a function gives are the function's
module _ {X Y : Type 0} (allowed : X → Y → Type 0) (f : X → Y) (all : List X)
    (one : (x : X) (y : Y) → Contains all x → allowed x y → y ≡ f x) where
  map_within : (xs : List X) (ys : List Y) → All (Contains all) xs → MapOf allowed xs ys
      → ys ≡ map f xs
  map_within [] [] within h = refl
  map_within (x ∷ xs) (y ∷ ys) within h =
      ap (λ v. v ∷ ys) (one x y (All-head (Contains all) x xs within) h.0)
      ∙ ap (λ l. f x ∷ l) (map_within xs ys (All-tail (Contains all) x xs within) h.1)
  map_within u v within h = absurd h

-- the same of the whole list
pub map_is_function : {X Y : Type 0} (allowed : X → Y → Type 0) (xs : List X) (ys : List Y)
    → MapOf allowed xs ys → (f : X → Y) → ((x : X) (y : Y) → Contains xs x → allowed x y → y ≡ f x)
    → ys ≡ map f xs
map_is_function allowed xs ys h f one = map_within allowed f xs one xs ys (All-contains_itself xs) h
