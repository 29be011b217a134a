-- The first item of a list at which something holds: of another list, of a range, of items
-- with their numbers; and of a map whose closure may fail.
use Rattle.parallel_bridge.proofs.Common.{◌≡◌, ℕ, ◌+◌, ◌-◌, ◌<◌, ◌∙◌, List, [], ◌∷◌, ◌++◌, Result, Ok, Err, Vec, Global, length, get_or, get_or-append_seam, length-append, refl, sym, ap, subst, arith, MatchResult}
use Rattle.parallel_bridge.proofs.Common.{All, All-nil, All-cons, All-head, All-tail, All-weaker, enumerate_from, range_with_len, length-range_with_len, Trouble, Closure, OfFault, UnlessRefused, listed, TryMapOf, EachOk}
use Rattle.parallel_fault.specs.Trouble.{IfClosure}
use Rattle.parallel_bridge.specs.Firsts.{IsFirst}
use Rattle.parallel_bridge.specs.Zips.{PairsOf}
use Rattle.parallel_bridge.proofs.Zips.{numbered_both}
use Rattle.std.proofs.Math.ListN.{get_or-append}
use Rattle.std.proofs.lemmas.List.FromFn.{get_or-range_with_len}

-- of another pair of properties
pub first_weaker : {X : Type 0} (P Q P' Q' : X → Type 0) → ((x : X) → P x → P' x)
    → ((x : X) → Q x → Q' x) → (xs : List X) (x : X) (place : ℕ) → IsFirst P Q xs x place
    → IsFirst P' Q' xs x place
first_weaker P Q P' Q' one other xs x place (before, after, split, fails, holds, at) =
    (before, after, split, All-weaker Q Q' other before fails, one x holds, at)

-- what holds of each number of a range
pub all_in_range : (Q : ℕ → Type 0) (n : ℕ) → All Q (range_with_len 0 n) → (i : ℕ) → i < n → Q i
all_in_range Q n each i inside =
    let there : get_or (range_with_len 0 n) i i ≡ i =
    get_or-range_with_len 0 n i i inside ∙ omega arith in
    subst Q there (each i i (omega (arith, inside, length-range_with_len 0 n)))

-- of a range the first number is the place, and it fails at each number below
pub first_in_range : (P Q : ℕ → Type 0) (n x place : ℕ) → IsFirst P Q (range_with_len 0 n) x place
    → (x ≡ place) × (place < n) × ((i : ℕ) → i < place → Q i)
first_in_range P Q n x place (before, after, split, fails, holds, at) =
    let many = length-range_with_len 0 n in
    let parts : length (range_with_len 0 n) ≡ length before + length (x ∷ after) =
    ap length split ∙ length-append before (x ∷ after) in
    let inside : length before < n = omega (arith, many, parts) in
    let same : x ≡ 0 + length before =
    sym (ap (λ l. get_or l (length before) x) split
    ∙ get_or-append_seam before x after x)
    ∙ get_or-range_with_len 0 n (length before) x inside in (
      omega (arith, same, at),
      omega (arith, inside, at),
      λ i below.
          let short : i < length before = omega (arith, below, at) in
          let there : get_or before i i ≡ i =
          sym (ap (λ l. get_or l i i) split ∙ get_or-append before (x ∷ after) i i short)
          ∙ get_or-range_with_len 0 n i i (omega (arith, short, inside)) ∙ omega arith in
          subst Q there (fails i i short),
    )

-- of items with their numbers, in the items
module _ {X : Type 0} (P : ℕ → X → Type 0) (Q : X → Type 0) where
  abbrev Fails : ℕ × X → Type 0
  Fails z = Q z.1

  pub numbered_all : (n : ℕ) (xs : List X) → All Fails (enumerate_from n xs) → All Q xs
  numbered_all n [] h = All-nil Q
  numbered_all n (x ∷ xs) h =
      All-cons Q x xs (All-head Fails (n, x) (enumerate_from (n + 1) xs) h)
      (numbered_all (n + 1) xs (All-tail Fails (n, x) (enumerate_from (n + 1) xs) h))

  numbered_from : (n : ℕ) (xs : List X) (before : List (ℕ × X)) (z : ℕ × X)
      (after : List (ℕ × X)) → enumerate_from n xs ≡ before ++ (z ∷ after) → All Fails before
      → (front : List X) × (rest : List X) × (xs ≡ front ++ (z.1 ∷ rest)) × All Q front
      × (z.0 ≡ n + length front)
  numbered_from n [] [] z after split each = absurd cc
  numbered_from n [] (b ∷ before) z after split each = absurd cc
  numbered_from n (x ∷ xs) [] z after split each =
      let same : (n, x) ≡ z = cc in
      let at = ap (λ (q : ℕ × X). q.0) {y = z} same in
      ([], xs, ap (λ (q : ℕ × X). q.1 ∷ xs) {y = z} same, All-nil Q, omega (arith, at))
  numbered_from n (x ∷ xs) (b ∷ before) z after split each =
      let same : b ≡ (n, x) = cc in
      let more : enumerate_from (n + 1) xs ≡ before ++ (z ∷ after) = cc in
      let (front, rest, cut, all, at) =
      numbered_from (n + 1) xs before z after more (All-tail Fails b before each) in (
        x ∷ front,
        rest,
        ap (λ l. x ∷ l) cut,
        All-cons Q x front (subst Fails same (All-head Fails b before each)) all,
        omega (arith, at),
      )

  -- the number is the place
  pub first_numbered : (xs : List X) (z : ℕ × X) (place : ℕ)
      → IsFirst (λ w. P w.0 w.1) Fails (enumerate_from 0 xs) z place
      → IsFirst (P z.0) Q xs z.1 z.0
  first_numbered xs z place (before, after, split, fails, holds, at) =
      let (front, rest, cut, all, where_it_is) = numbered_from 0 xs before z after split fails in
      (front, rest, cut, all, holds, omega (arith, where_it_is))

-- A map whose closure may fail: each item passes, or the error is what the first one that doesn't
-- pass fails with.
module _ {X Y E : Type 0} (allowed : X → Result Y E → Type 0) (passes : X → Type 0) where
  module _ (fails : E → X → Type 0) (good : (x : X) (y : Y) → allowed x (Ok y) → passes x) where
    module _ (bad : (x : X) (e : E) → allowed x (Err e) → fails e x) where
      each_passes : (xs : List X) (ys : List Y) → EachOk allowed xs ys → All passes xs
      each_passes [] ys h = All-nil passes
      each_passes (x ∷ xs) [] h = absurd h
      each_passes (x ∷ xs) (y ∷ ys) h =
          All-cons passes x xs (good x y h.0) (each_passes xs ys h.1)

      pub first_judged : (xs : List X) (out : Result (List Y) E) → TryMapOf allowed xs out
          → MatchResult out (λ _. All passes xs)
          (λ e. (x : X) × (place : ℕ) × IsFirst (fails e) passes xs x place)
      first_judged xs (Ok ys) h = each_passes xs ys h
      first_judged xs (Err e) (before, x, after, ys, split, each, failing) = (
        x,
        length before,
        (before, after, split, each_passes before ys each, bad x e failing, refl),
      )

-- items with their numbers, of a list whose length is known, as it was made and as the caller has it
pub came_numbered : {L X : Type 0} (gives : L → List X → Type 0) (made list : L)
    (start end n : ℕ) → made ≡ list → start ≡ 0 → end ≡ n
    → ((xs : List X) → gives list xs → length xs ≡ n) → (zs : List (ℕ × X))
    → PairsOf (λ is. is ≡ range_with_len start (end - start)) (gives made) zs
    → (xs : List X) × gives list xs × (zs ≡ enumerate_from 0 xs)
came_numbered gives made list start end n is zero whole long zs
    (indices, xs, counting, one, same) =
    let came : gives list xs = subst (λ p. gives p xs) is one in
    let counted : length xs ≡ n - 0 = omega (arith, long xs came) in
    let from_zero : indices ≡ range_with_len 0 (n - 0) =
    counting ∙ ap (λ k. range_with_len k (end - k)) zero
    ∙ ap (λ e. range_with_len 0 (e - 0)) whole in
    (xs, came, numbered_both 0 (n - 0) indices xs zs from_zero counted same)

-- Such a map over items with their numbers, whose error is the number: each item passes, or the
-- error is the place of the first one that fails.
module _ {X Y : Type 0} (allowed : ℕ × X → Result Y ℕ → Type 0) (passes fails : X → Type 0) where
  module _ (good : (z : ℕ × X) (y : Y) → allowed z (Ok y) → passes z.1) where
    module _ (bad : (z : ℕ × X) (e : ℕ) → allowed z (Err e) → (e ≡ z.0) × fails z.1) where
      judged_by_number : (xs : List X) (out : Result (List Y) ℕ)
          → TryMapOf allowed (enumerate_from 0 xs) out → MatchResult out (λ _. All passes xs)
          (λ e. (x : X) × IsFirst fails passes xs x e)
      judged_by_number xs (Ok ys) h = numbered_all (λ _ x. fails x) passes 0 xs
          (first_judged allowed (λ z. passes z.1) (λ e z. (e ≡ z.0) × fails z.1) good bad
          (enumerate_from 0 xs) (Ok ys) h)
      judged_by_number xs (Err e) h =
          let (z, place, first) =
          first_judged allowed (λ z. passes z.1) (λ d z. (d ≡ z.0) × fails z.1) good bad
          (enumerate_from 0 xs) (Err e) h in
          let (before, after, split, passed, (same, failing), at) =
          first_numbered (λ n x. (e ≡ n) × fails x) passes xs z place first in
          (z.1, (before, after, split, passed, failing, same ∙ at))

      -- over a list where nothing else may come
      pub first_of_numbered : {L : Type 0} (gives : L → List X → Type 0) (made list : L)
          (start end n : ℕ) → made ≡ list → start ≡ 0 → end ≡ n → (all : List X)
          → ((xs : List X) → gives list xs → xs ≡ all) → length all ≡ n
          → (result : Result (Vec Y Global) (Trouble ℕ)) → UnlessRefused result
          (λ out. (zs : List (ℕ × X)) × PairsOf (λ is. is ≡ range_with_len start (end - start))
          (gives made) zs × TryMapOf allowed zs (listed out))
          → MatchResult result (λ _. All passes all)
          (λ trouble. IfClosure trouble (λ e. (x : X) × IsFirst fails passes all x e))
      first_of_numbered gives made list start end n is zero whole all only long (Ok ys)
          (zs, pairs, h) =
          let (xs, came, numbers) = came_numbered gives made list start end n is zero whole
          (λ xs k. ap length (only xs k) ∙ long) zs pairs in
          judged_by_number all (Ok ys.items) (subst (λ l. TryMapOf allowed l (Ok ys.items))
          (numbers ∙ ap (enumerate_from 0) (only xs came)) h)
      first_of_numbered gives made list start end n is zero whole all only long
          (Err (OfFault f)) gave = tt
      first_of_numbered gives made list start end n is zero whole all only long
          (Err (Closure e)) (zs, pairs, h) =
          let (xs, came, numbers) = came_numbered gives made list start end n is zero whole
          (λ xs k. ap length (only xs k) ∙ long) zs pairs in
          judged_by_number all (Err e) (subst (λ l. TryMapOf allowed l (Err e))
          (numbers ∙ ap (enumerate_from 0) (only xs came)) h)
