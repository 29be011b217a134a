-- For folders: taking some items, and then more, is taking all of them; and one step of a loop over
-- items that come, over plain variables.
use Rattle.parallel_bridge.proofs.Common.{◌≡◌, List, [], ◌∷◌, ◌++◌, Result, Ok, Err, Option, Some, None, refl, sym, ◌∙◌, ap, subst, append_assoc, inl, inr, IsTrue, is_err, Chain, OnlyOk}
use Rattle.parallel_bridge.proofs.Common.{TryChain, PartitionOf, keys_in, keys_of, values_in, values_of, TryMapOnto, TryMapBehind, PartitionOnto, TryContinues, Vec, Global, false, is_some, append-nil}
use Rattle.parallel_bridge.proofs.Common.{ended}
use Rattle.parallel_bridge.proofs.Shapes.{MapOf-append}

module _ {X R : Type 0} (step : R → X → R → Type 0) where
  pub chain_append : (a : R) (xs ys : List X) (m b : R) → Chain step a xs m → Chain step m ys b
      → Chain step a (xs ++ ys) b
  chain_append a [] ys m b h k = subst (λ v. Chain step v ys b) (sym h) k
  chain_append a (x ∷ xs) ys m b (n, one, h) k = (n, one, chain_append n xs ys m b h k)

  -- one step more at the end of a chain
  pub chain_push : (a : R) (xs : List X) (m : R) (x : X) (b : R) → Chain step a xs m → step m x b
      → Chain step a (xs ++ x ∷ []) b
  chain_push a xs m x b h last = chain_append a xs (x ∷ []) m b h (b, last, refl)

module _ {X R E : Type 0} (step : R → X → Result R E → Type 0) where
  pub try_chain_append : (a : R) (xs ys : List X) (v out : Result R E) → TryChain step a xs v
      → TryContinues step v ys out → TryChain step a (xs ++ ys) out
  try_chain_append a [] ys v out h k = subst (λ w. TryContinues step w ys out) h k
  try_chain_append a (x ∷ xs) ys v out (inl (b, one, h)) k =
      inl (b, one, try_chain_append b xs ys v out h k)
  try_chain_append a (x ∷ xs) ys v out (inr (e, one, same)) k =
      inr (e, one, subst (λ w. TryContinues step w ys out) same k)

  pub try_continues : (start v out : Result R E) (xs ys : List X) → TryContinues step start xs v
      → TryContinues step v ys out → TryContinues step start (xs ++ ys) out
  try_continues (Ok a) v out xs ys h k = try_chain_append a xs ys v out h k
  try_continues (Err e) v out xs ys h k = subst (λ w. TryContinues step w ys out) h k

  -- nothing more leaves a chain as it is
  pub try_rests : (control : Result R E) → TryContinues step control [] control
  try_rests (Ok a) = refl
  try_rests (Err e) = refl

  -- an error stands, whatever comes
  pub try_stands : (control : Result R E) (xs ys : List X) (v : Result R E)
      → IsTrue (is_err control) → TryContinues step control xs v → TryContinues step control ys v
  try_stands (Ok a) xs ys v full h = absurd (cc full)
  try_stands (Err e) xs ys v full h = h

module _ {X Y E : Type 0} (allowed : X → Result Y E → Type 0) where
  pub onto_append : (before : List Y) (xs ys : List X) (v out : Result (List Y) E)
      → TryMapOnto allowed before xs v → TryMapBehind allowed v ys out
      → TryMapOnto allowed before (xs ++ ys) out
  onto_append before xs ys (Ok mid) (Ok zs) (new, at, each) (new', at', each') = (
    new ++ new',
    at' ∙ ap (λ l. l ++ new') at ∙ append_assoc before new new',
    MapOf-append (λ x y. allowed x (Ok y)) xs ys new new' each each',
  )
  onto_append before xs ys (Ok mid) (Err e) (new, at, each)
      (front, bad, after, vs, at', each', fails) = (
        xs ++ front,
        bad,
        after,
        new ++ vs,
        ap (λ l. xs ++ l) at' ∙ sym (append_assoc xs front (bad ∷ after)),
        MapOf-append (λ x y. allowed x (Ok y)) xs front new vs each each',
        fails,
      )
  onto_append before xs ys (Err e) out (front, bad, after, vs, at, each, fails) same =
      subst (TryMapOnto allowed before (xs ++ ys)) (sym same) (
        front,
        bad,
        after ++ ys,
        vs,
        ap (λ l. l ++ ys) at ∙ append_assoc front (bad ∷ after) ys,
        each,
        fails,
      )

  pub behind_append : (start v out : Result (List Y) E) (xs ys : List X)
      → TryMapBehind allowed start xs v → TryMapBehind allowed v ys out
      → TryMapBehind allowed start (xs ++ ys) out
  behind_append (Ok before) v out xs ys h k = onto_append before xs ys v out h k
  behind_append (Err e) v out xs ys h k = subst (λ w. TryMapBehind allowed w ys out) h k

  -- nothing more leaves them as they are
  pub behind_rests : (start : Result (List Y) E) → TryMapBehind allowed start [] start
  behind_rests (Ok before) = ([], sym (append-nil before), tt)
  behind_rests (Err e) = refl

  -- the item fails where none did before it
  pub first_fails : (values : List Y) (failed : Option E) (x : X) (e : E) → is_some failed ≡ false
      → allowed x (Err e) → TryMapBehind allowed (ended values failed) (x ∷ []) (Err e)
  first_fails values None x e none one = ([], x, [], [], refl, tt, one)
  first_fails values (Some b) x e none one = absurd (cc none)

-- the values and keys of two parts one after another
pub values_of-append : {K U : Type 0} (ps qs : List (K × Option U))
    → values_of (ps ++ qs) ≡ values_of ps ++ values_of qs
values_of-append [] qs = refl
values_of-append ((k, Some u) ∷ ps) qs = ap (λ l. u ∷ l) (values_of-append ps qs)
values_of-append ((k, None) ∷ ps) qs = values_of-append ps qs

pub keys_of-append : {K U : Type 0} (ps qs : List (K × Option U))
    → keys_of (ps ++ qs) ≡ keys_of ps ++ keys_of qs
keys_of-append [] qs = refl
keys_of-append ((k, Some u) ∷ ps) qs = keys_of-append ps qs
keys_of-append ((k, None) ∷ ps) qs = ap (λ l. k ∷ l) (keys_of-append ps qs)

module _ {X K U : Type 0} (allowed : X → (K × Option U) → Type 0) where
  pub PartitionOf-append : (xs ys : List X) (us us' : List U) (ks ks' : List K)
      → PartitionOf allowed xs us ks → PartitionOf allowed ys us' ks'
      → PartitionOf allowed (xs ++ ys) (us ++ us') (ks ++ ks')
  PartitionOf-append xs ys us us' ks ks' (ps, each, are_us, are_ks) (qs, each', are_us', are_ks') = (
    ps ++ qs,
    MapOf-append allowed xs ys ps qs each each',
    ap (λ l. l ++ us') are_us ∙ ap (λ l. values_of ps ++ l) are_us' ∙ sym (values_of-append ps qs),
    ap (λ l. l ++ ks') are_ks ∙ ap (λ l. keys_of ps ++ l) are_ks' ∙ sym (keys_of-append ps qs),
  )

  pub part_append : (values us us' : List U) (keys ks ks' : List K) (xs ys : List X)
      → PartitionOnto allowed values keys xs us ks → PartitionOnto allowed us ks ys us' ks'
      → PartitionOnto allowed values keys (xs ++ ys) us' ks'
  part_append values us us' keys ks ks' xs ys (new_us, new_ks, at_us, at_ks, part)
      (more_us, more_ks, at_us', at_ks', part') = (
        new_us ++ more_us,
        new_ks ++ more_ks,
        at_us' ∙ ap (λ l. l ++ more_us) at_us ∙ append_assoc values new_us more_us,
        at_ks' ∙ ap (λ l. l ++ more_ks) at_ks ∙ append_assoc keys new_ks more_ks,
        PartitionOf-append xs ys new_us more_us new_ks more_ks part part',
      )

  -- one item more
  pub part_one : (values us : List U) (keys ks : List K) (x : X) (p : K × Option U) → allowed x p
      → us ≡ values ++ values_of (p ∷ []) → ks ≡ keys ++ keys_of (p ∷ [])
      → PartitionOnto allowed values keys (x ∷ []) us ks
  part_one values us keys ks x p one at_us at_ks =
      (values_of (p ∷ []), keys_of (p ∷ []), at_us, at_ks, (p ∷ [], (one, tt), refl, refl))

  -- nothing is left
  pub part_end : (values : List U) (keys : List K)
      → PartitionOnto allowed values keys [] values keys
  part_end values keys =
      ([], [], sym (append-nil values), sym (append-nil keys), ([], tt, refl, refl))

-- one item's value or key more, and then those of others
pub part_put : {X K U E : Type 0} (allowed : X → (K × Option U) → Type 0) (values us : List U)
    (keys ks : List K) (x : X) (p : K × Option U) (xs : List X)
    (out : Result (Vec (Vec U Global × Vec K Global) Global) E)
    → OnlyOk (λ r. PartitionOnto allowed us ks xs (values_in r.items) (keys_in r.items)) out
    → allowed x p → us ≡ values ++ values_of (p ∷ []) → ks ≡ keys ++ keys_of (p ∷ [])
    → OnlyOk
    (λ r. PartitionOnto allowed values keys (x ∷ xs) (values_in r.items) (keys_in r.items)) out
part_put allowed values us keys ks x p xs (Ok r) part one at_us at_ks =
    part_append allowed values us (values_in r.items) keys ks (keys_in r.items) (x ∷ []) xs
    (part_one allowed values us keys ks x p one at_us at_ks) part
part_put allowed values us keys ks x p xs (Err e) part one at_us at_ks = part

-- the values of pairs of lists one after another
pub values_in-append : {K U : Type 0} (ps qs : List (Vec U Global × Vec K Global))
    → values_in (ps ++ qs) ≡ values_in ps ++ values_in qs
values_in-append [] qs = refl
values_in-append (p ∷ ps) qs = ap (λ l. p.0.items ++ l) (values_in-append ps qs)
    ∙ sym (append_assoc p.0.items (values_in ps) (values_in qs))

-- the keys likewise
pub keys_in-append : {K U : Type 0} (ps qs : List (Vec U Global × Vec K Global))
    → keys_in (ps ++ qs) ≡ keys_in ps ++ keys_in qs
keys_in-append [] qs = refl
keys_in-append (p ∷ ps) qs = ap (λ l. p.1.items ++ l) (keys_in-append ps qs)
    ∙ sym (append_assoc p.1.items (keys_in ps) (keys_in qs))

-- the values and the keys of lists of pairs that are put one after another
pub lists_joined : {K U : Type 0} (all left right : List (Vec U Global × Vec K Global))
    → all ≡ left ++ right → (values_in all ≡ values_in left ++ values_in right)
    × (keys_in all ≡ keys_in left ++ keys_in right)
lists_joined all left right same = (
  ap (λ l. values_in l) same ∙ values_in-append left right,
  ap (λ l. keys_in l) same ∙ keys_in-append left right,
)

-- a pair of lists more
pub lists_put : {K U : Type 0} (all ps : List (Vec U Global × Vec K Global))
    (p : Vec U Global × Vec K Global) → all ≡ ps ++ p ∷ []
    → (values_in all ≡ values_in ps ++ p.0.items) × (keys_in all ≡ keys_in ps ++ p.1.items)
lists_put all ps p same =
    let at = lists_joined all ps (p ∷ []) same in (
      at.0 ∙ ap (λ l. values_in ps ++ l) (append-nil p.0.items),
      at.1 ∙ ap (λ l. keys_in ps ++ l) (append-nil p.1.items),
    )

-- what an item with a value adds, and what one without it adds
module _ {K U : Type 0} (p : K × Option U) where
  pub with_value : (u : U) → p.1 ≡ Some u
      → (values_of (p ∷ []) ≡ u ∷ []) × (keys_of (p ∷ []) ≡ [])
  with_value u same = (
    ap (λ o. values_of ((p.0, o) ∷ [])) same,
    ap (λ o. keys_of ((p.0, o) ∷ [])) same,
  )

  pub without_value : p.1 ≡ None
      → (values_of (p ∷ []) ≡ []) × (keys_of (p ∷ []) ≡ p.0 ∷ [])
  without_value same = (
    ap (λ o. values_of ((p.0, o) ∷ [])) same,
    ap (λ o. keys_of ((p.0, o) ∷ [])) same,
  )
