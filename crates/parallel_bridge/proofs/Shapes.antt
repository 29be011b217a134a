-- Facts on the shape of a list, and on what goes along it.
use Rattle.parallel_bridge.proofs.Common.{◌≡◌, ℕ, suc, ◌/◌, ◌<◌, ◌≤◌, List, [], ◌∷◌, ◌++◌, length, take, drop, refl, ◌∙◌, ap, arith, take-append-drop, MapOf, segment, halves, cut_items, Shape}

-- the segments of a list's shape are the list
pub Shape-items : {X : Type 0} (k : ℕ) (xs : List X) → cut_items (Shape k xs) ≡ xs
Shape-items (suc k) (x ∷ (y ∷ xs)) =
    let zs = x ∷ (y ∷ xs) in let n = length zs / 2 in
    ap (λ l. l ++ cut_items (Shape k (drop n zs))) (Shape-items k (take n zs))
    ∙ ap (λ l. take n zs ++ l) (Shape-items k (drop n zs)) ∙ take-append-drop n zs
Shape-items u v = refl

-- a list of fewer than two items, or at depth 0, is one segment
pub Shape-leaf : {X : Type 0} (k : ℕ) (xs : List X) → length xs < 2 → Shape k xs ≡ segment xs
Shape-leaf (suc k) (x ∷ (y ∷ xs)) h = absurd (omega arith)
Shape-leaf u v h = refl

-- a list of two items or more is split at half its length above depth 0
pub Shape-node : {X : Type 0} (k : ℕ) (xs : List X) → 2 ≤ length xs
    → Shape (suc k) xs ≡ halves (Shape k (take (length xs / 2) xs))
    (Shape k (drop (length xs / 2) xs))
Shape-node k (x ∷ (y ∷ xs)) h = refl
Shape-node k u h = absurd (omega arith)

-- the results of two neighbouring parts are those of both
pub MapOf-append : {X Y : Type 0} (allowed : X → Y → Type 0) (xs xs' : List X) (ys ys' : List Y)
    → MapOf allowed xs ys → MapOf allowed xs' ys' → MapOf allowed (xs ++ xs') (ys ++ ys')
MapOf-append allowed [] xs' [] ys' h i = i
MapOf-append allowed (x ∷ xs) xs' (y ∷ ys) ys' h i = (h.0, MapOf-append allowed xs xs' ys ys' h.1 i)
MapOf-append allowed u xs' v ys' h i = absurd h
