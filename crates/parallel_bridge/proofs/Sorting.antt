-- A sort by a closure that calls another.
use Rattle.parallel_bridge.proofs.Common.{◌≡◌, Bool, List, [], ◌∷◌, ◌∙◌, refl, Bor, Mut, Called, ComparesAs, answers_by}
use Rattle.std.specs.declared.cmp.Ordering.{Ordering}
use Rattle.std.specs.List.Sorted.{IsSortedByClosure, IsStableByClosure}

-- g has the members of the closure, and h those of what calls it: a call of s is one of `inner s`,
-- and leaves that.
module _ {F S X : Type 0} (g : Mut F (Bor X × (Bor X × Unit {0})) Ordering)
    (h : Mut S (Bor X × (Bor X × Unit {0})) Ordering) (inner : S → F)
    (through : (s : S) (a : Bor X × (Bor X × Unit {0})) (r : Ordering) (t : S)
    → Called h s a r t → Called g (inner s) a r (inner s) × (inner t ≡ inner s)) where
  pub compares_through : (lt : X → X → Bool) (s : S) → ComparesAs g lt (inner s) → ComparesAs h lt s
  compares_through lt s says = answers_by h _ (λ t. inner t ≡ inner s) (λ t a r u called is.
      let step = through t a r u called in
      (((says.at (a ∷ [])) r (inner s) (rw is at step.0)).0, step.1 ∙ is)) s refl

  pub sorted_through : (s : S) (xs : List X) → IsSortedByClosure h s xs
      → IsSortedByClosure g (inner s) xs
  sorted_through s xs is = λ lt order says. is lt order (compares_through lt s says)

  pub stable_through : (s : S) (xs ys : List X) → IsStableByClosure h s xs ys
      → IsStableByClosure g (inner s) xs ys
  stable_through s xs ys is = λ lt order says. is lt order (compares_through lt s says)
