-- Levels of a tree and their root.
use Rattle.commonware_parallel.proofs.Common.{◌≡◌, ℕ, ◌+◌, ◌<◌, ◌≤◌, List, [], ◌∷◌, ◌++◌, length, Option, Some, None, refl, sym, ◌∙◌, ap, subst, arith, append_assoc, append-nil, length-append}
use Rattle.commonware_parallel.proofs.Common.{nil_from_length, MatchOption, option_to_list, MapOf, IsDetermined, MerkleRoot, NextLevel, of_none, of_one, of_level}
use Rattle.commonware_parallel.proofs.Common.{into_iter_items, into_iter_len}
use Rattle.parallel_bridge.proofs.IteratorItems.{came_as_it_is}
use Rattle.parallel_bridge.proofs.Shapes.{MapOf-append}
use Rattle.std.proofs.lemmas.Iterator.Adapters.{YieldsList-from_vec}
use Rattle.std.specs.Iterator.{Drains}
use Rattle.std.specs.Vec.Iter.{into_iter_steps}
use Rattle.parallel_bridge.specs.Pairs.{odd_of, pairs_of}

-- each item is its own leaf where a leaf is the item
pub same_leaves : {T : Type 0} (same : T → T → Type 0)
    → ((x y : T) → same x y → y ≡ x) → (xs ys : List T) → MapOf same xs ys → ys ≡ xs
same_leaves same told [] [] h = refl
same_leaves same told [] (y ∷ ys) h = absurd h
same_leaves same told (x ∷ xs) [] h = absurd h
same_leaves same told (x ∷ xs) (y ∷ ys) h =
    ap (λ v. v ∷ ys) (told x y h.0) ∙ ap (λ l. x ∷ l) (same_leaves same told xs ys h.1)

module _ {T : Type 0} (combine : T → T → T → Type 0) where
  -- the next level is no longer, and of two nodes and more it is shorter
  next_short : (xs nodes : List T) → NextLevel combine xs nodes → length nodes ≤ length xs
  next_short [] nodes h = omega (arith, ap length h)
  next_short (x ∷ []) nodes h = omega (arith, ap length h)
  next_short (x ∷ (y ∷ xs)) [] h = absurd h
  next_short (x ∷ (y ∷ xs)) (n ∷ nodes) h = omega (arith, next_short xs nodes h.1)

  pub next_shorter : (xs nodes : List T) → NextLevel combine xs nodes → 1 < length xs
      → length nodes < length xs
  next_shorter [] nodes h more = omega (arith, more)
  next_shorter (x ∷ []) nodes h more = omega (arith, more)
  next_shorter (x ∷ (y ∷ xs)) [] h more = absurd h
  next_shorter (x ∷ (y ∷ xs)) (n ∷ nodes) h more = omega (arith, next_short xs nodes h.1)

  -- the root of the next level of two nodes and more is theirs
  pub root_below : (xs nodes : List T) (root : Option T) → 1 < length xs
      → NextLevel combine xs nodes → MerkleRoot combine nodes root → MerkleRoot combine xs root
  root_below [] nodes root more h r = absurd (omega (arith, more))
  root_below (x ∷ []) nodes root more h r = absurd (omega (arith, more))
  root_below (x ∷ (y ∷ xs)) nodes root more h r = of_level h r

  -- of one node at most the root is the last one
  pub root_of_last : (all rest : List T) (root : Option T) (n m : ℕ) → length all ≡ n → n ≤ 1
      → all ≡ rest ++ option_to_list root → MatchOption root ((n ≡ 0) × (m ≡ 0)) (λ _. m + 1 ≡ n)
      → MerkleRoot combine all root
  root_of_last all rest None n m long few split h =
      subst (λ l. MerkleRoot combine l None) (sym (nil_from_length all (long ∙ h.0))) of_none
  root_of_last all rest (Some x) n m long few split h =
      let long_of : length rest + 1 ≡ length all =
      sym (ap length split ∙ length-append rest (x ∷ [])) in
      let none : length rest ≡ 0 = omega (arith, long, few, long_of) in
      subst (λ l. MerkleRoot combine l (Some x))
      (sym (split ∙ ap (λ l. l ++ x ∷ []) (nil_from_length rest none))) of_one

  -- results for the pairs, and after them the odd last one, are the next level
  pub level_of_pairs : (allowed : T × T → T → Type 0)
      → ((p : T × T) (node : T) → allowed p node → combine p.0 p.1 node) → (level nodes : List T)
      → MapOf allowed (pairs_of level) nodes
      → NextLevel combine level (nodes ++ option_to_list (odd_of level))
  level_of_pairs allowed told [] [] h = refl
  level_of_pairs allowed told [] (n ∷ nodes) h = absurd h
  level_of_pairs allowed told (x ∷ []) [] h = refl
  level_of_pairs allowed told (x ∷ []) (n ∷ nodes) h = absurd h
  level_of_pairs allowed told (x ∷ (y ∷ xs)) [] h = absurd h
  level_of_pairs allowed told (x ∷ (y ∷ xs)) (n ∷ nodes) h =
      (told (x, y) n h.0, level_of_pairs allowed told xs nodes h.1)

  -- the same of what a map over the pairs says, where the odd last one was pushed after its
  -- results
  pub level_from_map : (allowed : T × T → T → Type 0) (level nodes all : List T)
      (pairs : List (T × T)) (odd : Option T)
      → ((xs : List (T × T)) × (xs ≡ pairs) × MapOf allowed xs nodes)
      → ((p : T × T) (node : T) → allowed p node → combine p.0 p.1 node) → pairs ≡ pairs_of level
      → odd ≡ odd_of level → all ≡ nodes ++ option_to_list odd → NextLevel combine level all
  level_from_map allowed level nodes all pairs odd (xs, came, maps) told taken last grown =
      subst (NextLevel combine level)
      (sym (grown ∙ ap (λ o. nodes ++ option_to_list o) last))
      (level_of_pairs allowed told level nodes
      (subst (λ l. MapOf allowed l nodes) (came ∙ taken) maps))

  -- one level is one at most where combine returns one
  module _ (one_answer : IsDetermined combine) where
    one_next : (xs ms ns : List T) → NextLevel combine xs ms → NextLevel combine xs ns → ms ≡ ns
    one_next [] ms ns h k = h ∙ sym k
    one_next (x ∷ []) ms ns h k = h ∙ sym k
    one_next (x ∷ (y ∷ xs)) [] ns h k = absurd h
    one_next (x ∷ (y ∷ xs)) (m ∷ ms) [] h k = absurd k
    one_next (x ∷ (y ∷ xs)) (m ∷ ms) (n ∷ ns) h k =
        ap (λ v. v ∷ ms) (one_answer x y m n h.0 k.0) ∙ ap (λ l. n ∷ l) (one_next xs ms ns h.1 k.1)

    pub one_root : (xs : List T) (one other : Option T) → MerkleRoot combine xs one
        → MerkleRoot combine xs other → one ≡ other
    one_root xs one other of_none of_none = refl
    one_root xs one other of_one of_one = refl
    one_root xs one other (of_level {x = x} {y = y} {xs = rest} {nodes = ms} h p)
        (of_level {nodes = ns} k q) =
        one_root ms one other p
        (subst (λ l. MerkleRoot combine l other) (one_next (x ∷ (y ∷ rest)) ns ms k h) q)

-- The level above the leaves of items that come one by one.
module _ {X T : Type 0} (leaf : X → T → Type 0) (combine : T → T → T → Type 0) where
  -- Of the items so far all leaves are below the nodes but an odd last one: whatever next level
  -- that has with the leaves to come, after the nodes it is that of all leaves.
  abbrev pub LevelSoFar : List X → List T → Option T → Type 0
  LevelSoFar xs nodes odd = (leaves : List T) × MapOf leaf xs leaves
      × ((more above : List T) → NextLevel combine (option_to_list odd ++ more) above
      → NextLevel combine (leaves ++ more) (nodes ++ above))

  pub level_start : (nodes : List T) → nodes ≡ [] → LevelSoFar [] nodes None
  level_start nodes none = (
    [],
    tt,
    λ more above h. subst (λ l. NextLevel combine more (l ++ above)) (sym none) h,
  )

  -- one more leaf, without a partner
  pub level_odd : (xs : List X) (x : X) (nodes : List T) (y : T) → leaf x y
      → LevelSoFar xs nodes None → LevelSoFar (xs ++ x ∷ []) nodes (Some y)
  level_odd xs x nodes y made (ls, maps, leads) = (
    ls ++ y ∷ [],
    MapOf-append leaf xs (x ∷ []) ls (y ∷ []) maps (made, tt),
    λ more above h. subst (λ l. NextLevel combine l (nodes ++ above))
        (sym (append_assoc ls (y ∷ []) more)) (leads (y ∷ more) above h),
  )

  -- one more leaf, the partner of the odd one
  pub level_pair : (xs : List X) (x : X) (nodes then : List T) (l y node : T) → leaf x y
      → combine l y node → then ≡ nodes ++ node ∷ [] → LevelSoFar xs nodes (Some l)
      → LevelSoFar (xs ++ x ∷ []) then None
  level_pair xs x nodes then l y node made combined grown (ls, maps, leads) = (
    ls ++ y ∷ [],
    MapOf-append leaf xs (x ∷ []) ls (y ∷ []) maps (made, tt),
    λ more above h. subst (λ t. NextLevel combine ((ls ++ y ∷ []) ++ more) (t ++ above))
        (sym grown)
        (subst (λ t. NextLevel combine t ((nodes ++ node ∷ []) ++ above))
        (sym (append_assoc ls (y ∷ []) more))
        (subst (NextLevel combine (ls ++ y ∷ more)) (sym (append_assoc nodes (node ∷ []) above))
        (leads (y ∷ more) (node ∷ above) (combined, h)))),
  )

  -- all items came
  pub level_done : (xs : List X) (nodes all : List T) (odd : Option T)
      → all ≡ nodes ++ option_to_list odd → LevelSoFar xs nodes odd
      → (leaves : List T) × MapOf leaf xs leaves × NextLevel combine leaves all
  level_done xs nodes all None grown (ls, maps, leads) = (
    ls,
    maps,
    subst (NextLevel combine ls) (sym grown)
        (subst (λ l. NextLevel combine l (nodes ++ [])) (append-nil ls) (leads [] [] refl)),
  )
  level_done xs nodes all (Some l) grown (ls, maps, leads) = (
    ls,
    maps,
    subst (NextLevel combine ls) (sym grown)
        (subst (λ t. NextLevel combine t (nodes ++ l ∷ [])) (append-nil ls)
        (leads [] (l ∷ []) refl)),
  )

-- the level above the items of a list, which are their own leaves
pub level_of_vec : {T Z : Type 0} (same : T → T → Type 0) (combine : T → T → T → Type 0)
    (level nodes : List T) (s : _) → ((x y : T) → same x y → y ≡ x)
    → into_iter_items s ≡ level → into_iter_len s ≡ length level
    → ((xs : List T) × Drains (into_iter_steps {X = T} {Z = Z}) s xs × ((leaves : List T) × MapOf same xs leaves
    × NextLevel combine leaves nodes)) → NextLevel combine level nodes
level_of_vec same combine level nodes s told rest long (xs, came, (ls, maps, next)) =
    subst (λ l. NextLevel combine l nodes) (same_leaves same told xs ls maps
    ∙ came_as_it_is xs came (YieldsList-from_vec level rest long)) next
