-- Results that are written one after another into a window, where no item fails, and up to the
-- first error.
use Rattle.parallel_bridge.proofs.Common.{MapOf, Cut, segment, halves, cut_items, Shape, TryAlongCut, OnlyOk, ℕ, List, ◌++◌, Result, Ok, Err, sym, subst, inl, inr, Answered, OneAfterAnother}
use Rattle.parallel_bridge.proofs.Common.{[], ◌∷◌, IfOk, refl, Global, Vec, Trouble, Closure, OfFault, UnlessRefused, listed, Driven, GivesSome, EachOk, FirstErr, TryMapOf}
use Rattle.parallel_bridge.proofs.Shapes.{MapOf-append, Shape-items}
use Rattle.parallel_bridge.proofs.TryShapes.{try_along_wider}
use Rattle.parallel_bridge.proofs.FoldersAppend.{onto_append}

-- where no item fails, each segment has its results
module _ {X S Y : Type 0} (E : Type 0) (so_far : List X → S → List Y → Type 0)
    (leaf : List X → List Y → Type 0) (ends : (xs : List X) (state : S) (ys : List Y)
    → so_far xs state ys → leaf xs ys) where
  only_answers : (xs : List X) (out : Result (List Y) E) → Answered so_far (λ xs e. ⊥) xs out
      → OnlyOk (leaf xs) out
  only_answers xs (Ok ys) h = ends xs h.0 ys h.1
  only_answers xs (Err e) h = h

  pub answers_along : (cut : Cut X) (out : Result (List Y) E)
      → TryAlongCut (Answered so_far (λ xs e. ⊥)) OneAfterAnother cut out
      → TryAlongCut (λ l o. OnlyOk (leaf l) o) OneAfterAnother cut out
  answers_along cut out h = try_along_wider (Answered so_far (λ xs e. ⊥))
      (λ l o. OnlyOk (leaf l) o) OneAfterAnother OneAfterAnother only_answers
      (λ a b o n. n) cut out h

module _ {X Y : Type 0} (allowed : X → Y → Type 0) where
  -- the results of the segments, one after another
  filled_along : (E : Type 0) (cut : Cut X) (ys : List Y)
      → TryAlongCut {E = E} (λ l out. OnlyOk (MapOf allowed l) out) OneAfterAnother cut (Ok ys)
      → MapOf allowed (cut_items cut) ys
  filled_along E (segment xs) ys h = h
  filled_along E (halves p q) ys (inl (a, b, h, i, n)) = rw n (MapOf-append allowed
      (cut_items p) (cut_items q) a b (filled_along E p a h) (filled_along E q b i))
  filled_along E (halves p q) ys (inr (inl (e, same, h))) = absurd (cc same)
  filled_along E (halves p q) ys (inr (inr (a, e, same, h, i))) = absurd (cc same)

  pub filled_shape : (E : Type 0) (k : ℕ) (xs : List X) (ys : List Y)
      → TryAlongCut {E = E} (Answered {S = Unit {0}} (λ l s zs. MapOf allowed l zs) (λ l e. ⊥))
      OneAfterAnother (Shape k xs) (Ok ys) → MapOf allowed xs ys
  filled_shape E k xs ys h = subst (λ l. MapOf allowed l ys) (Shape-items k xs)
      (filled_along E (Shape k xs) ys
      (answers_along E (λ l s zs. MapOf allowed l zs) (MapOf allowed) (λ l s zs each. each)
      (Shape k xs) (Ok ys) h))

module _ {X Y E : Type 0} (allowed : X → Result Y E → Type 0) where
  -- one value more
  pub one_value : (x : X) (out : Result Y E) → allowed x out
      → IfOk out (λ y. (xs : List X) (ys : List Y) → EachOk allowed xs ys
      → EachOk allowed (xs ++ x ∷ []) (ys ++ y ∷ []))
  one_value x (Ok y) h =
      λ xs ys each. MapOf-append (λ x y. allowed x (Ok y)) xs (x ∷ []) ys (y ∷ []) each (h, tt)
  one_value x (Err e) h = tt

  tries : (xs : List X) (out : Result (List Y) E)
      → Answered {S = Unit {0}} (λ xs s ys. EachOk allowed xs ys) (FirstErr allowed) xs out
      → TryMapOf allowed xs out
  tries xs (Ok ys) h = h.1
  tries xs (Err e) h = h

  -- the values of the segments one after another, or the leftmost error
  tried_along : (cut : Cut X) (out : Result (List Y) E)
      → TryAlongCut (TryMapOf allowed) OneAfterAnother cut out
      → TryMapOf allowed (cut_items cut) out
  tried_along (segment xs) out h = h
  tried_along (halves p q) (Ok c) (inl (a, b, h, i, n)) = subst
      (EachOk allowed (cut_items p ++ cut_items q)) (sym n)
      (MapOf-append (λ x y. allowed x (Ok y)) (cut_items p) (cut_items q) a b
      (tried_along p (Ok a) h) (tried_along q (Ok b) i))
  tried_along (halves p q) (Err x) (inl (a, b, h, i, n)) = absurd n
  tried_along (halves p q) out (inr (inl (e, same, h))) =
      rw same (onto_append allowed [] (cut_items p) (cut_items q) (Err e) (Err e)
      (tried_along p (Err e) h) refl)
  tried_along (halves p q) out (inr (inr (a, e, same, h, i))) =
      rw same (onto_append allowed [] (cut_items p) (cut_items q) (Ok a) (Err e)
      (a, refl, tried_along p (Ok a) h) (tried_along q (Err e) i))

  -- what comes along the shape of a list
  abbrev pub Tried : ℕ → List X → Result (List Y) E → Type 0
  Tried k xs out =
      TryAlongCut (Answered {S = Unit {0}} (λ xs s ys. EachOk allowed xs ys) (FirstErr allowed))
      OneAfterAnother (Shape k xs) out

  pub tried_shape : (k : ℕ) (xs : List X) (out : Result (List Y) E) → Tried k xs out
      → TryMapOf allowed xs out
  tried_shape k xs out h = subst (λ l. TryMapOf allowed l out) (Shape-items k xs)
      (tried_along (Shape k xs) out (try_along_wider
      (Answered {S = Unit {0}} (λ xs s ys. EachOk allowed xs ys) (FirstErr allowed))
      (TryMapOf allowed) OneAfterAnother OneAfterAnother tries (λ a b o n. n) (Shape k xs) out h))

  -- an error is an error of values in a vector too
  pub tried_error : {P : Type 0} (gives : P → List X → Type 0) (parts : P) (k : ℕ) (t : Trouble E)
      → Driven gives parts (Answered {S = Unit {0}} (λ xs s ys. EachOk allowed xs ys)
      (FirstErr allowed)) OneAfterAnother k (Err t) → UnlessRefused {R = Vec Y Global} (Err t)
      (λ out. GivesSome gives parts (λ xs. TryMapOf allowed xs (listed out)))
  tried_error gives parts k (Closure e) (xs, came, h) = (xs, came, tried_shape k xs (Err e) h)
  tried_error gives parts k (OfFault f) h = h
