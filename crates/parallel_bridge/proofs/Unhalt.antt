-- For `unhalt`: an outcome that is no stop goes along the shape as if there were no gate.
use Rattle.parallel_bridge.proofs.Common.{Trouble, Closure, OfFault, Cut, segment, halves, Shape, Driven, OnlyOk, TryAlongCut, Halt, Failed, Stopped, halting, IsUnhalted}
use Rattle.parallel_bridge.proofs.Common.{written, View, ℕ, List, Result, Ok, Err, refl, sym, subst, inl, inr}

module _ {X R E : Type 0} (leaf : List X → Result R E → Type 0)
    (node : R → R → Result R E → Type 0) (meeting : R → R → Result R (Halt E) → Type 0)
    (meets : (a b : R) (out : Result R (Halt E)) → meeting a b out → halting (node a) b out) where
  abbrev Along : Cut X → Result R E → Type 0
  Along cut out = TryAlongCut leaf node cut out

  abbrev Halting : Cut X → Result R (Halt E) → Type 0
  Halting cut out = TryAlongCut (halting leaf) meeting cut out

  -- two values
  two_values : (p q : Cut X) (a b : R) (out : Result R (Halt E)) → Along p (Ok a) → Along q (Ok b)
      → halting (node a) b out → halting Along (halves p q) out
  two_values p q a b (Err Stopped) h i n = tt
  two_values p q a b out h i n = inl (a, b, h, i, n)

  -- an error of the left part, or of the right one
  left_error : (p q : Cut X) (e : Halt E) → halting Along p (Err e)
      → halting Along (halves p q) (Err e)
  left_error p q (Failed e) h = inr (inl (e, refl, h))
  left_error p q Stopped h = tt

  right_error : (p q : Cut X) (a : R) (e : Halt E) → Along p (Ok a) → halting Along q (Err e)
      → halting Along (halves p q) (Err e)
  right_error p q a (Failed e) h i = inr (inr (a, e, refl, h, i))
  right_error p q a Stopped h i = tt

  one_segment : (xs : List X) (out : Result R (Halt E)) → halting leaf xs out
      → halting Along (segment xs) out
  one_segment xs (Err Stopped) h = tt
  one_segment xs out h = h

  pub along_unhalted : (cut : Cut X) (out : Result R (Halt E)) → Halting cut out
      → halting Along cut out
  along_unhalted (segment xs) out h = one_segment xs out h
  along_unhalted (halves p q) out (inl (a, b, h, i, n)) =
      two_values p q a b out (along_unhalted p (Ok a) h) (along_unhalted q (Ok b) i)
      (meets a b out n)
  along_unhalted (halves p q) out (inr (inl (e, same, h))) =
      subst (halting Along (halves p q)) (sym same) (left_error p q e (along_unhalted p (Err e) h))
  along_unhalted (halves p q) out (inr (inr (a, e, same, h, i))) =
      subst (halting Along (halves p q)) (sym same)
      (right_error p q a e (along_unhalted p (Ok a) h) (along_unhalted q (Err e) i))

  -- what was driven with a gate was driven, where no stop stands
  pub driven_unhalted : {P : Type 0} (gives : P → List X → Type 0) (parts : P) (depth : ℕ)
      (outcome : Result R (Trouble (Halt E))) (result : Result R (Trouble E))
      → Driven gives parts (halting leaf) meeting depth outcome → IsUnhalted outcome result
      → Driven gives parts leaf node depth result
  driven_unhalted gives parts depth (Ok r) result (xs, came, h) is =
      rw is (xs, came, along_unhalted (Shape depth xs) (Ok r) h)
  driven_unhalted gives parts depth (Err (Closure (Failed e))) result (xs, came, h) is =
      rw is (xs, came, along_unhalted (Shape depth xs) (Err (Failed e)) h)
  driven_unhalted gives parts depth (Err (Closure Stopped)) result h is = absurd is
  driven_unhalted gives parts depth (Err (OfFault f)) result h is = rw is h

-- the values don't matter to what an outcome is
pub written_unhalted : {T E : Type 0} (window : View T)
    (done : Result (Unit {0}) (Trouble (Halt E))) (result : Result (Unit {0}) (Trouble E))
    → IsUnhalted done result → IsUnhalted (written window done) (written window result)
written_unhalted window (Err (Closure Stopped)) result is = is
written_unhalted window done result is =
    subst (λ r. IsUnhalted (written window done) (written window r)) (sym is) refl

-- two values that are put together to a value alone are so under the eye of a gate
pub ok_meets : {R E : Type 0} (allowed : R → R → R → Type 0) (a b : R)
    (out : Result R (Halt E)) → OnlyOk (allowed a b) out
    → halting {E = E} (λ c o. OnlyOk (allowed a c) o) b out
ok_meets allowed a b (Ok r) h = h
ok_meets allowed a b (Err e) h = absurd h
