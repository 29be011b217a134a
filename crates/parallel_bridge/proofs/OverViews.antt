-- What the clause of a list call says of lists of which the items show values: of borrows, and of
-- pairs.
use Rattle.parallel_bridge.proofs.Common.{◌≡◌, List, [], ◌∷◌, Result, Ok, Err, Vec, Global, refl, ap, subst, ◌∙◌, map, map-id, IfOk, Bor, zip, map-append, IfOk-weaker, Trouble, Closure, OfFault}
use Rattle.parallel_bridge.proofs.Common.{MapOf, UnlessRefused, listed, TryMapOf, PairsOf, both}
use Rattle.parallel_bridge.proofs.Laws.{map_is_function}

module _ {X A : Type 0} (view : X → A) where
  -- a map of items is one of what they show
  pub map_shown : {Y : Type 0} (allowed : X → Y → Type 0) (plain : A → Y → Type 0)
      → ((x : X) (y : Y) → allowed x y → plain (view x) y) → (xs : List X) (ys : List Y)
      → MapOf allowed xs ys → MapOf plain (map view xs) ys
  map_shown allowed plain one [] [] h = tt
  map_shown allowed plain one (x ∷ xs) (y ∷ ys) h =
      (one x y h.0, map_shown allowed plain one xs ys h.1)
  map_shown allowed plain one u v h = absurd h

  -- and so is one that may fail
  pub try_map_shown : {Y E : Type 0} (allowed : X → Result Y E → Type 0)
      (plain : A → Result Y E → Type 0)
      → ((x : X) (r : Result Y E) → allowed x r → plain (view x) r) → (xs : List X)
      (out : Result (List Y) E) → TryMapOf allowed xs out → TryMapOf plain (map view xs) out
  try_map_shown allowed plain one xs (Ok ys) h =
      map_shown (λ x y. allowed x (Ok y)) (λ a y. plain a (Ok y)) (λ x y k. one x (Ok y) k) xs ys h
  try_map_shown allowed plain one xs (Err e) (before, x, after, ys, split, each, fails) = (
    map view before,
    view x,
    map view after,
    ys,
    ap (map view) split ∙ map-append view before (x ∷ after),
    map_shown (λ x y. allowed x (Ok y)) (λ a y. plain a (Ok y)) (λ x y k. one x (Ok y) k) before ys
        each,
    one x (Err e) fails,
  )

  functional : {Y : Type 0} (allowed : X → Y → Type 0) (f : A → Y)
      → ((x : X) (y : Y) → allowed x y → y ≡ f (view x)) → (xs : List X) (ys : List Y)
      → MapOf allowed xs ys → ys ≡ map f (map view xs)
  functional allowed f one xs ys h = map_is_function (λ a y. y ≡ f a) (map view xs) ys
      (map_shown allowed (λ a y. y ≡ f a) one xs ys h) f (λ a y within same. same)

  -- a map by a function of what items show, over a source all of whose lists show one list
  pub map_of_shown : {B E : Type 0} (gives : List X → Type 0) (all : List A)
      (allowed : X → B → Type 0) (f : A → B) (result : Result (Vec B Global) E)
      → IfOk result (λ ys. (xs : List X) × gives xs × MapOf allowed xs ys.items)
      → ((xs : List X) → gives xs → map view xs ≡ all)
      → ((x : X) (y : B) → allowed x y → y ≡ f (view x)) → IfOk result (λ ys. ys.items ≡ map f all)
  map_of_shown gives all allowed f result gave shown one =
      IfOk-weaker result _ (λ ys. ys.items ≡ map f all)
      (λ ys h. functional allowed f one h.0 ys.items h.2 ∙ ap (map f) (shown h.0 h.1)) gave

  -- a map that may fail, over such a source
  pub try_map_of_shown : {B E : Type 0} (gives : List X → Type 0) (all : List A)
      (allowed : X → Result B E → Type 0) (plain : A → Result B E → Type 0)
      (result : Result (Vec B Global) (Trouble E)) → UnlessRefused result
      (λ out. (xs : List X) × gives xs × TryMapOf allowed xs (listed out))
      → ((xs : List X) → gives xs → map view xs ≡ all)
      → ((x : X) (r : Result B E) → allowed x r → plain (view x) r)
      → UnlessRefused result (λ out. TryMapOf plain all (listed out))
  try_map_of_shown gives all allowed plain (Ok ys) gave shown one =
      subst (λ l. TryMapOf plain l (Ok ys.items)) (shown gave.0 gave.1)
      (try_map_shown allowed plain one gave.0 (Ok ys.items) gave.2)
  try_map_of_shown gives all allowed plain (Err (Closure e)) gave shown one =
      subst (λ l. TryMapOf plain l (Err e)) (shown gave.0 gave.1)
      (try_map_shown allowed plain one gave.0 (Err e) gave.2)
  try_map_of_shown gives all allowed plain (Err (OfFault f)) gave shown one = gave

module _ {X Y A B : Type 0} (v : X → A) (w : Y → B) where
  shown_zip : (xs : List X) (ys : List Y)
      → map (λ (z : X × Y). (v z.0, w z.1)) (zip xs ys) ≡ zip (map v xs) (map w ys)
  shown_zip (x ∷ xs) (y ∷ ys) = ap (λ l. (v x, w y) ∷ l) (shown_zip xs ys)
  shown_zip u v = refl

  -- the pairs of two sides, of each of which all lists show one list
  pub pairs_shown : (left : List A) (right : List B) (P : List X → Type 0) (Q : List Y → Type 0)
      → ((xs : List X) → P xs → map v xs ≡ left) → ((ys : List Y) → Q ys → map w ys ≡ right)
      → (zs : List (X × Y)) → PairsOf P Q zs
      → map (λ (z : X × Y). (v z.0, w z.1)) zs ≡ zip left right
  pairs_shown left right P Q first second zs (xs, ys, one, two, same) =
      ap (map (λ (z : X × Y). (v z.0, w z.1))) same ∙ shown_zip xs ys
      ∙ ap (λ l. zip l (map w ys)) (first xs one) ∙ ap (zip left) (second ys two)

module _ {A B : Type 0} (left : List A) (right : List B) where
  -- the pairs of two slices
  pub zip_of_slices : (zs : List (Bor A × Bor B))
      → PairsOf (λ xs. map (λ (x : Bor A). x.now) xs ≡ left)
      (λ ys. map (λ (y : Bor B). y.now) ys ≡ right) zs → map both zs ≡ zip left right
  zip_of_slices = pairs_shown (λ x. x.now) (λ y. y.now) left right
      (λ xs. map (λ (x : Bor A). x.now) xs ≡ left) (λ ys. map (λ (y : Bor B). y.now) ys ≡ right)
      (λ xs h. h) (λ ys h. h)

  -- those of two lists that come as they are, as of two `Copies`
  pub zip_of_lists : (zs : List (A × B)) → PairsOf (λ xs. xs ≡ left) (λ ys. ys ≡ right) zs
      → zs ≡ zip left right
  zip_of_lists zs (xs, ys, one, two, same) = same ∙ ap (λ l. zip l ys) one ∙ ap (zip left) two

  -- those of a slice and of a list that comes as it is
  pub zip_of_slice_and_list : (zs : List (Bor A × B))
      → PairsOf (λ xs. map (λ (x : Bor A). x.now) xs ≡ left) (λ ys. ys ≡ right) zs
      → map (λ (z : Bor A × B). (z.0.now, z.1)) zs ≡ zip left right
  zip_of_slice_and_list = pairs_shown (λ x. x.now) (λ y. y) left right
      (λ xs. map (λ (x : Bor A). x.now) xs ≡ left) (λ ys. ys ≡ right) (λ xs h. h)
      (λ ys h. map-id ys ∙ h)

  pub zip_of_list_and_slice : (zs : List (A × Bor B))
      → PairsOf (λ xs. xs ≡ left) (λ ys. map (λ (y : Bor B). y.now) ys ≡ right) zs
      → map (λ (z : A × Bor B). (z.0, z.1.now)) zs ≡ zip left right
  zip_of_list_and_slice = pairs_shown (λ x. x) (λ y. y.now) left right (λ xs. xs ≡ left)
      (λ ys. map (λ (y : Bor B). y.now) ys ≡ right) (λ xs h. map-id xs ∙ h) (λ ys h. h)
