-- Sums along a list's shape, which don't wrap around.
use Rattle.shapes_command.proofs.Common.{◌≡◌, ℕ, zero, suc, ◌+◌, ◌*◌, ◌/◌, ◌%◌, ◌^◌, ◌<◌, ◌≤◌, ◌∙◌, List, [], ◌∷◌, length, map, take, drop, ap, refl, sym, subst, arith, All, pow-succ', length-map}
use Rattle.shapes_command.proofs.Common.{length-take-le, length-drop, take-map, drop-map, All-head, All-tail, All-take, All-drop, Chain, FoldSegment, Shape, cutdepth, Along, AlongLeaves, FoldsAs}
use Rattle.shapes_command.proofs.Common.{ReducedSegment, ExplorerTakes, picked, Explorer, one_path, over_two, Parallel}
use Rattle.std.proofs.lemmas.Nat.{leading_top, pow_pos}
use Rattle.parallel_policy.specs.declared.Site.{Site}
use Rattle.commonware_parallel.specs.Calls.{body_call}
use Rattle.commonware_parallel.specs.declared.call.Pick.TheVariants.{By}
use Rattle.parallel_bridge.specs.declared.path.Path.{Path}

-- a parallel explorer that is planned for three runs a body in parallel
pub explored_in_parallel : (explorer : Explorer) (site : Site) (len : ℕ) (path : Path)
    → explorer ≡ over_two → ExplorerTakes explorer site (body_call len) (By path)
    → path ≡ Parallel
explored_in_parallel explorer site len path same takes =
    one_path path Parallel (takes.0 ∙ ap (λ e. picked e site (body_call len)) same)

-- in parallel a fold goes along the list's shape
pub along_shape : {X R : Type 0} (identity : R → Type 0) (allowed : List X → R → Type 0)
    (reduce : R → R → R → Type 0) (depth : ℕ) (path : Path) (xs : List X) (r : R) → path ≡ Parallel
    → FoldsAs identity allowed reduce depth path xs r
    → AlongLeaves identity allowed reduce (Shape depth xs) r
along_shape identity allowed reduce depth path xs r parallel folds =
    subst (λ p. FoldsAs identity allowed reduce depth p xs r) parallel folds

exponent_one : (t : ℕ) → 2 ^ t ≤ 2 → 2 < 2 ^ suc t → t ≡ 1
exponent_one zero low high = absurd (omega (arith, high))
exponent_one (suc zero) low high = refl
exponent_one (suc (suc t)) low high =
    let four : 2 ^ suc (suc t) ≡ 2 * (2 * 2 ^ t) = pow-succ' 2 (suc t)
    ∙ ap (λ m. 2 * m) (pow-succ' 2 t) in
    let positive : 0 < 2 ^ t = pow_pos t in
    absurd (omega (arith, low, four, positive))

-- two threads cut a list twice
pub depth_of_two : cutdepth 2 ≡ 2
depth_of_two =
    let top = leading_top 64 2 (omega arith) (omega arith) in
    let one : top.0 ≡ 1 = exponent_one top.0 top.2 top.3 in
    omega (arith, top.1, one)

-- what a sum is at most along a shape of that depth: twice as much for each halving
abbrev pub most_along : ℕ → ℕ
most_along zero = 1002000000
most_along (suc k) = most_along k + most_along k

least : (k : ℕ) → 1002000000 ≤ most_along k
least zero = omega arith
least (suc k) = omega (arith, least k)

-- identity and values are at most 1000000, so up to 1000 of them are added with no wrap
module _ {A B : Type 0} (v : A → B) (value : B → ℕ) (IsGood : B → Type 0)
    (at_most : (x : B) → IsGood x → value x ≤ 1000000) (begins : ℕ → Type 0)
    (step : ℕ → A → ℕ → Type 0) (reduce : ℕ → ℕ → ℕ → Type 0) (identity : ℕ)
    (small : identity ≤ 1000000) (starts : (e : ℕ) → begins e → e ≡ identity)
    (adds : (a : ℕ) (x : A) (b : ℕ) → IsGood (v x) → step a x b → b ≡ (a + value (v x)) % 2 ^ 64)
    (joins : (a b c : ℕ) → reduce a b c → c ≡ (a + b) % 2 ^ 64) where
  abbrev Begins : ℕ → Type 0
  Begins e = e ≡ identity

  abbrev Plain : ℕ → B → ℕ → Type 0
  Plain a x b = b ≡ a + value x

  abbrev Joins : ℕ → ℕ → ℕ → Type 0
  Joins a b c = c ≡ a + b

  chain_plain : (xs : List A) → All IsGood (map v xs) → (a r : ℕ) → a + length xs * 1000000 < 2 ^ 64
      → Chain step a xs r → Chain Plain a (map v xs) r × (r ≤ a + length xs * 1000000)
  chain_plain [] good a r fits same = (same, omega (arith, same))
  chain_plain (x ∷ xs) good a r fits (m, stepped, rest) =
      let here : IsGood (v x) = All-head IsGood (v x) (map v xs) good in
      let bound = at_most (v x) here in
      let added : m ≡ a + value (v x) = omega (arith, adds a x m here stepped, bound, fits) in
      let later = chain_plain xs (All-tail IsGood (v x) (map v xs) good) m r
      (omega (arith, added, bound, fits)) rest in
      ((m, added, later.0), omega (arith, added, bound, later.1))

  leaf_plain : (xs : List A) → All IsGood (map v xs) → length xs ≤ 1000 → (r : ℕ)
      → ReducedSegment begins (FoldSegment begins step) reduce xs r
      → ReducedSegment Begins (FoldSegment Begins Plain) Joins (map v xs) r × (r ≤ 1002000000)
  leaf_plain xs good few r (e, b, begun, (a, started, chain), joined) =
      let first = starts e begun in
      let second = starts a started in
      let sums = chain_plain xs good a b (omega (arith, second, small, few)) chain in
      let both : r ≡ e + b =
      omega (arith, joins e b r joined, first, second, small, sums.1, few) in (
        (e, b, first, (a, second, sums.0), both),
        omega (arith, both, first, second, small, sums.1, few),
      )

  -- so a fold along a shape adds plainly
  pub along_plain : (k : ℕ) (xs : List A) → All IsGood (map v xs) → length xs ≤ 1000
      → most_along k < 2 ^ 64 → (r : ℕ)
      → AlongLeaves begins (FoldSegment begins step) reduce (Shape k xs) r
      → Along Begins Plain Joins (Shape k (map v xs)) r × (r ≤ most_along k)
  along_plain zero xs good few fits r h = leaf_plain xs good few r h
  along_plain (suc k) [] good few fits r h =
      let leaf = leaf_plain [] good few r h in (leaf.0, omega (arith, leaf.1, least k))
  along_plain (suc k) (x ∷ []) good few fits r h =
      let leaf = leaf_plain (x ∷ []) good few r h in (leaf.0, omega (arith, leaf.1, least k))
  along_plain (suc k) (x ∷ (y ∷ xs)) good few fits r (a, b, left, right, joined) =
      let all : List A = x ∷ (y ∷ xs) in
      let n : ℕ = length all / 2 in
      let half : n ≡ length (map v all) / 2 = ap (λ l. l / 2) (sym (length-map all v)) in
      let front : All IsGood (map v (take n all)) =
      subst (All IsGood) (take-map v n all) (All-take IsGood n (map v all) good) in
      let back : All IsGood (map v (drop n all)) =
      subst (All IsGood) (drop-map v n all) (All-drop IsGood n (map v all) good) in
      let within : n ≤ length all = omega arith in
      let room : most_along k < 2 ^ 64 = omega (arith, fits, least k) in
      let p = along_plain k (take n all) front
      (omega (arith, length-take-le n all within, within, few)) room a left in
      let q =
      along_plain k (drop n all) back (omega (arith, length-drop n all, few)) room b right in
      let p' : Along Begins Plain Joins (Shape k (take (length (map v all) / 2) (map v all))) a =
      subst (λ m. Along Begins Plain Joins (Shape k (take m (map v all))) a) half
      (subst (λ l. Along Begins Plain Joins (Shape k l) a) (sym (take-map v n all)) p.0) in
      let q' : Along Begins Plain Joins (Shape k (drop (length (map v all) / 2) (map v all))) b =
      subst (λ m. Along Begins Plain Joins (Shape k (drop m (map v all))) b) half
      (subst (λ l. Along Begins Plain Joins (Shape k l) b) (sym (drop-map v n all)) q.0) in
      let both : r ≡ a + b = omega (arith, joins a b r joined, p.1, q.1, fits) in
      ((a, b, p', q', both), omega (arith, both, p.1, q.1))
