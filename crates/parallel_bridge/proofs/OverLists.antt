-- What the clause of a list call says where its source gives one list alone: a fact of that list.
use Rattle.parallel_bridge.proofs.Common.{◌≡◌, ℕ, Bool, List, [], ◌∷◌, Option, Result, Ok, Err, Vec, Global, subst, map, fold, MatchResult, IfOk, IfErr, Contains, Drains, Bor, YieldsList, IfOk-weaker, Path}
use Rattle.parallel_bridge.proofs.Common.{Serial, Trouble, Closure, OfFault, MapOf, Bracketing, FoldLaws, UnlessRefused, FoldsAs, TryMapOf, listed}
use Rattle.parallel_bridge.proofs.IteratorItems.{came_as_it_is}
use Rattle.parallel_bridge.proofs.OverViews.{map_of_shown}
use Rattle.parallel_bridge.proofs.Laws.{map_is_function, plain_from_bracketing}

-- a fact of the list that came is one of the list
pub fact_of_list : {A T E : Type 0} (all : List A) (P : List A → T → Type 0) (result : Result T E)
    → IfOk result (λ r. (xs : List A) × (xs ≡ all) × P xs r) → IfOk result (P all)
fact_of_list all P result gave =
    IfOk-weaker result _ (P all) (λ r h. subst (λ xs. P xs r) h.1 h.2) gave

-- the same of a call whose closure may fail
pub outcome_of_list : {A T E : Type 0} (all : List A) (P : List A → Result T E → Type 0)
    (result : Result T (Trouble E)) → UnlessRefused result
    (λ out. (xs : List A) × (xs ≡ all) × P xs out) → UnlessRefused result (P all)
outcome_of_list all P (Ok r) gave = subst (λ xs. P xs (Ok r)) gave.1 gave.2
outcome_of_list all P (Err (Closure e)) gave = subst (λ xs. P xs (Err e)) gave.1 gave.2
outcome_of_list all P (Err (OfFault f)) gave = gave

-- a map whose closure says more of each result
pub map_weaker : {X Y : Type 0} (allowed works : X → Y → Type 0)
    → ((x : X) (y : Y) → allowed x y → works x y) → (xs : List X) (ys : List Y)
    → MapOf allowed xs ys → MapOf works xs ys
map_weaker allowed works one [] [] h = h
map_weaker allowed works one [] (y ∷ ys) h = absurd h
map_weaker allowed works one (x ∷ xs) [] h = absurd h
map_weaker allowed works one (x ∷ xs) (y ∷ ys) h =
    (one x y h.0, map_weaker allowed works one xs ys h.1)

-- the same over a list
pub mapped : {X Y E : Type 0} (all : List X) (allowed works : X → Y → Type 0)
    (result : Result (Vec Y Global) E)
    → IfOk result (λ ys. (xs : List X) × (xs ≡ all) × MapOf allowed xs ys.items)
    → ((x : X) (y : Y) → allowed x y → works x y) → IfOk result (λ ys. MapOf works all ys.items)
mapped all allowed works result gave one = IfOk-weaker result _ (λ ys. MapOf works all ys.items)
    (λ ys h. map_weaker allowed works one all ys.items h)
    (fact_of_list all (λ xs ys. MapOf allowed xs ys.items) result gave)

-- the values of a map that may fail, where it didn't
pub finished : {X Y E : Type 0} (all : List X) (allowed : X → Result Y E → Type 0)
    (works : X → Y → Type 0) (result : Result (Vec Y Global) (Trouble E)) → UnlessRefused result
    (λ out. (xs : List X) × (xs ≡ all) × TryMapOf allowed xs (listed out))
    → ((x : X) (y : Y) → allowed x (Ok y) → works x y)
    → IfOk result (λ ys. MapOf works all ys.items)
finished all allowed works (Ok ys) gave one = subst (λ l. MapOf works l ys.items) gave.1
    (map_weaker (λ x y. allowed x (Ok y)) works one gave.0 ys.items gave.2)
finished all allowed works (Err e) gave one = tt

-- a map by a function, over a list
pub map_of_list : {A B E : Type 0} (all : List A) (allowed : A → B → Type 0) (f : A → B)
    (result : Result (Vec B Global) E)
    → IfOk result (λ ys. (xs : List A) × (xs ≡ all) × MapOf allowed xs ys.items)
    → ((x : A) (y : B) → Contains all x → allowed x y → y ≡ f x)
    → IfOk result (λ ys. ys.items ≡ map f all)
map_of_list all allowed f result gave one = IfOk-weaker result _ (λ ys. ys.items ≡ map f all)
    (λ ys h. map_is_function allowed all ys.items
    (subst (λ xs. MapOf allowed xs ys.items) h.1 h.2) f one) gave

-- a map by a function, over a slice whose items are borrowed
pub map_of_slice : {A B E : Type 0} (all : List A) (allowed : Bor A → B → Type 0) (f : A → B)
    (result : Result (Vec B Global) E)
    → IfOk result (λ ys. (xs : List (Bor A)) × (map (λ (x : Bor A). x.now) xs ≡ all)
    × MapOf allowed xs ys.items) → ((x : Bor A) (y : B) → allowed x y → y ≡ f x.now)
    → IfOk result (λ ys. ys.items ≡ map f all)
map_of_slice {A = A} all allowed f result gave one = map_of_shown (λ (x : Bor A). x.now)
    (λ xs. map (λ (x : Bor A). x.now) xs ≡ all) all allowed f result gave (λ xs h. h) one

-- a map by a function, over an iterator every run of which gives one list
pub map_of_iterator : {S A B E : Type 0} {steps : S → Option A → S → Type 0} {s : S} (all : List A)
    (allowed : A → B → Type 0) (f : A → B) (result : Result (Vec B Global) E)
    → IfOk result (λ ys. (xs : List A) × Drains steps s xs × MapOf allowed xs ys.items)
    → YieldsList steps (λ x. x) s all → ((x : A) (y : B) → Contains all x → allowed x y → y ≡ f x)
    → IfOk result (λ ys. ys.items ≡ map f all)
map_of_iterator all allowed f result gave road one = map_of_list all allowed f result
    (IfOk-weaker result _ _ (λ ys h. (h.0, came_as_it_is h.0 h.1 road, h.2)) gave) one

-- a fold whose closures keep the laws, over a list
pub fold_of_list : {A R E : Type 0} (all : List A) (identity : R → Type 0)
    (step : R → A → R → Type 0) (reduce : R → R → R → Type 0) (unit : R) (f : R → A → R)
    (g : R → R → R) (good : R → Bool) (result : Result R E)
    → IfOk result (λ r. (xs : List A) × (xs ≡ all) × Bracketing identity step reduce xs r)
    → FoldLaws identity step reduce unit f g good all → IfOk result (λ r. r ≡ fold f unit all)
fold_of_list all identity step reduce unit f g good result gave laws =
    IfOk-weaker result _ (λ r. r ≡ fold f unit all)
    (λ r h. plain_from_bracketing identity step reduce all r
    (subst (λ xs. Bracketing identity step reduce xs r) h.1 h.2) unit f g good laws) gave

-- serially a fold is one segment
pub in_one : {X R : Type 0} (identity : R → Type 0) (allowed : List X → R → Type 0)
    (reduce : R → R → R → Type 0) (depth : ℕ) (path : Path) (xs : List X) (r : R)
    → FoldsAs identity allowed reduce depth path xs r → path ≡ Serial → allowed xs r
in_one identity allowed reduce depth path xs r h serial =
    subst (λ p. FoldsAs identity allowed reduce depth p xs r) serial h

-- one side of what is said of a result
pub if_ok : {R E : Type 0} (P : R → Type 0) (Q : E → Type 0) (result : Result R E)
    → MatchResult result P Q → IfOk result P
if_ok P Q (Ok r) h = h
if_ok P Q (Err e) h = tt

pub if_err : {R E : Type 0} (P : R → Type 0) (Q : E → Type 0) (result : Result R E)
    → MatchResult result P Q → IfErr result Q
if_err P Q (Ok r) h = tt
if_err P Q (Err e) h = h
