-- Lists that go pair by pair, with one more at the end of both, and from each place.
use Rattle.parallel_bridge.proofs.Common.{◌≡◌, ℕ, suc, ◌<◌, List, [], ◌∷◌, ◌++◌, subst, arith, length, length-append, AllZip}
use Rattle.parallel_bridge.proofs.Shapes.{MapOf-append}
use Rattle.std.proofs.lemmas.Slice.Zip.{AllZip-long}
use Rattle.std.specs.Prelude.{slice_index_or}

module _ {A B : Type 0} (R : A → B → Type 0) where
  pop : (xs : List A) (ys : List B) (x : A) (y : B) → AllZip R (xs ++ x ∷ []) (ys ++ y ∷ [])
      → AllZip R xs ys × R x y
  pop [] [] x y h = (tt, h.0)
  pop (a ∷ xs) (b ∷ ys) x y h = let rest = pop xs ys x y h.1 in ((h.0, rest.0), rest.1)
  pop u v x y h = absurd (omega (
    arith,
    AllZip-long R (u ++ x ∷ []) (v ++ y ∷ []) h,
    length-append u (x ∷ []),
    length-append v (y ∷ []),
  ))

  pub zip_more : (xs : List A) (ys all : List B) (x : A) (y : B) → all ≡ ys ++ y ∷ []
      → AllZip R xs ys → R x y → AllZip R (xs ++ x ∷ []) all
  zip_more xs ys all x y put each one =
      rw put (MapOf-append _ xs (x ∷ []) ys (y ∷ []) each (one, tt))

  pub zip_last : (xs more : List A) (ys all : List B) (x : A) (y : B) → more ≡ xs ++ x ∷ []
      → all ≡ ys ++ y ∷ [] → AllZip R more all → AllZip R xs ys × R x y
  zip_last xs more ys all x y longer put each = pop xs ys x y
      (subst (λ l. AllZip R l (ys ++ y ∷ [])) longer (subst (AllZip R more) put each))

  -- and with two more
  pub zip_two : (xs one two : List A) (ys first all : List B) (i o : A) (p q : B)
      → one ≡ xs ++ i ∷ [] → two ≡ one ++ o ∷ [] → all ≡ first ++ q ∷ [] → first ≡ ys ++ p ∷ []
      → AllZip R two all → AllZip R xs ys × R i p × R o q
  zip_two xs one two ys first all i o p q longer longest put_two put each =
      let (others, outer) = zip_last one two first all o q longest put_two each in
      let (rest, inner) = zip_last xs one ys first i p longer put others in
      (rest, inner, outer)

module _ {A : Type 0} (R : A → A → Type 0) where
  pub zip_at : (xs ys : List A) → length ys ≡ length xs
      → ((i : ℕ) (d : A) → i < length xs → R (slice_index_or xs i d) (slice_index_or ys i d))
      → AllZip R xs ys
  zip_at [] [] same at = tt
  zip_at [] (y ∷ ys) same at = absurd (omega (arith, same))
  zip_at (x ∷ xs) [] same at = absurd (omega (arith, same))
  zip_at (x ∷ xs) (y ∷ ys) same at = (
    at 0 x (omega arith),
    zip_at xs ys (omega (arith, same)) (λ i d below. at (suc i) d (omega (arith, below))),
  )
