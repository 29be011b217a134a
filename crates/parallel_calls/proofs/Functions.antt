-- What calls come to whose closures go by a function.
use Rattle.std.proofs.Common.{◌≡◌, List, [], ◌∷◌, ◌++◌, Result, Ok, Err, Option, refl, sym, ◌∙◌, ap, map, Vec, Global}
use Rattle.parallel_fault.specs.declared.fault.Trouble.{Trouble}
use Rattle.parallel_fault.specs.declared.fault.Trouble.TheVariants.{Closure}
use Rattle.parallel_fault.specs.declared.fault.Trouble.TheVariants.{Fault as OfFault}
use Rattle.parallel_bridge.specs.Lists.{MapOf}
use Rattle.parallel_bridge.specs.Outcomes.{UnlessRefused, listed}
use Rattle.parallel_bridge.specs.Parts.{PartitionOf, keys_of, values_of}
use Rattle.parallel_bridge.specs.Tries.{EachOk, TryMapOf}
use Rattle.parallel_bridge.proofs.Laws.{map_is_function}
use Rattle.parallel_calls.specs.Functions.{GoesBy, before, try_map}

pub plain_map : {X Y : Type 0} (allowed : X → Y → Type 0) (f : X → Y) → GoesBy allowed f
    → (xs : List X) (ys : List Y) → MapOf allowed xs ys → ys ≡ map f xs
plain_map allowed f goes xs ys h =
    map_is_function allowed xs ys h f (λ x y within one. goes x y one)

pub plain_partition : {X K U : Type 0} (allowed : X → (K × Option U) → Type 0)
    (f : X → K × Option U) → GoesBy allowed f → (xs : List X) (us : List U) (ks : List K)
    → PartitionOf allowed xs us ks → (us ≡ values_of (map f xs)) × (ks ≡ keys_of (map f xs))
plain_partition allowed f goes xs us ks (ps, each, values, keys) =
    let same = plain_map allowed f goes xs ps each in
    (values ∙ ap values_of same, keys ∙ ap keys_of same)

module _ {X Y E : Type 0} (allowed : X → Result Y E → Type 0) (f : X → Result Y E)
    (goes : GoesBy allowed f) where
  each_tried : (xs : List X) (ys : List Y) → EachOk allowed xs ys → Ok ys ≡ try_map f xs
  each_tried [] [] h = refl
  each_tried [] (y ∷ ys) h = absurd h
  each_tried (x ∷ xs) [] h = absurd h
  each_tried (x ∷ xs) (y ∷ ys) h =
      ap (before (Ok y)) (each_tried xs ys h.1)
      ∙ ap (λ r. before r (try_map f xs)) (goes x (Ok y) h.0)

  first_failed : (front : List X) (ys : List Y) (x : X) (back : List X) (e : E)
      → EachOk allowed front ys → allowed x (Err e) → Err e ≡ try_map f (front ++ (x ∷ back))
  first_failed [] [] x back e h fails =
      ap (λ r. before r (try_map f back)) (goes x (Err e) fails)
  first_failed [] (y ∷ ys) x back e h fails = absurd h
  first_failed (z ∷ front) [] x back e h fails = absurd h
  first_failed (z ∷ front) (y ∷ ys) x back e h fails =
      ap (before (Ok y)) (first_failed front ys x back e h.1 fails)
      ∙ ap (λ r. before r (try_map f (front ++ (x ∷ back)))) (goes z (Ok y) h.0)

  tried : (xs : List X) (out : Result (List Y) E) → TryMapOf allowed xs out → out ≡ try_map f xs
  tried xs (Ok ys) h = each_tried xs ys h
  tried xs (Err e) (front, x, back, ys, split, each, fails) =
      first_failed front ys x back e each fails ∙ sym (ap (try_map f) split)

  pub plain_try_map : (gives : List X → Type 0) (result : Result (Vec Y Global) (Trouble E))
      → UnlessRefused result (λ out. (xs : List X) × gives xs × TryMapOf allowed xs (listed out))
      → UnlessRefused result (λ out. (xs : List X) × gives xs × (listed out ≡ try_map f xs))
  plain_try_map gives (Ok ys) (xs, came, h) = (xs, came, tried xs (Ok ys.items) h)
  plain_try_map gives (Err (Closure e)) (xs, came, h) = (xs, came, tried xs (Err e) h)
  plain_try_map gives (Err (OfFault fault)) h = h
