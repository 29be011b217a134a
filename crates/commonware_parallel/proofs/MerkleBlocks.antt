-- Levels of a tree by blocks of its leaves.
use Rattle.commonware_parallel.proofs.Common.{ℕ, zero, suc, IfOk, Ok, Err, Result, ◌+◌, ◌-◌, ◌*◌, ◌/◌, ◌<◌, ◌≤◌, ◌≡◌, ◌++◌, ◌∷◌, [], List, Option, length, refl, sym, ◌∙◌, ap, subst, arith}
use Rattle.commonware_parallel.proofs.Common.{append_assoc, length-append, add-mul, mul-add, one-mul, zero-mul}
use Rattle.commonware_parallel.proofs.Common.{AreBlocks, AreTops, AreTopsOf, ComesDown, HasGiven, Levels, MerkleRoot, NextLevel, leaves_below, of_level}
use denote.RattleType.{RattleType}
use Rattle.parallel_bridge.proofs.Shapes.{MapOf-append}
use Rattle.std.proofs.lemmas.Slice.Zip.{AllZip-long}
use Rattle.std.specs.Mem.{type_size}
use Rattle.std.specs.Vec.Ownership.{FitsInBlock}

-- a node is above some leaf
pub leaves_some : (levels : ℕ) → 0 < leaves_below levels
leaves_some zero = omega arith
leaves_some (suc levels) = omega (arith, leaves_some levels)

-- a block of some size is the two halves of a node lower, or one leaf
pub half_below : (size half levels : ℕ) → 1 < size → half ≡ size / 2
    → size ≡ leaves_below levels
    → (lower : ℕ) × (levels ≡ suc lower) × (half ≡ leaves_below lower) × (size ≡ half + half)
half_below size half zero more is at = absurd (omega (arith, more, at))
half_below size half (suc lower) more is at =
    let same : half ≡ leaves_below lower = omega (arith, is, at) in
    (lower, refl, same, omega (arith, same, at))

-- fewer places fit where more do
pub fits_fewer : (R : RattleType) (all few : ℕ) → few ≤ all → FitsInBlock R all
    → FitsInBlock R few
fits_fewer R all few less fits =
    let more = all - few in let both : all ≡ few + more = omega (arith, less) in
    let cut : all * type_size R ≡ few * type_size R + more * type_size R =
    ap (λ n. n * type_size R) both ∙ add-mul few more (type_size R) in
    (omega (arith, cut, fits.0), omega (arith, less, fits.1))

-- what holds of a result's value and of something else holds of its value
pub ok_first : {R E : Type 0} (r : Result R E) (P Q : Type 0) → IfOk r (λ _. P × Q)
    → IfOk r (λ _. P)
ok_first (Ok v) P Q h = h.0
ok_first (Err e) P Q h = tt

module _ {T : Type 0} (combine : T → T → T → Type 0) where
  -- the next level of two lists, of which the front one has an even number of nodes
  next_append : (n : ℕ) (xs ys ms ns : List T) → length xs ≡ n + n → NextLevel combine xs ms
      → NextLevel combine ys ns → (length ms ≡ n) × NextLevel combine (xs ++ ys) (ms ++ ns)
  next_append n [] ys ms ns even h k = (
    omega (arith, even, ap length h),
    subst (λ l. NextLevel combine ys (l ++ ns)) (sym h) k,
  )
  next_append n (x ∷ []) ys ms ns even h k = absurd (omega (arith, even))
  next_append n (x ∷ (y ∷ xs)) ys [] ns even h k = absurd h
  next_append zero (x ∷ (y ∷ xs)) ys (m ∷ ms) ns even h k = absurd (omega (arith, even))
  next_append (suc n) (x ∷ (y ∷ xs)) ys (m ∷ ms) ns even h k =
      let rest = next_append n xs ys ms ns (omega (arith, even)) h.1 k in
      (omega (arith, rest.0), (h.0, rest.1))

  -- Several levels of two lists, of which the front one has whole blocks: those of either, one
  -- after the other.
  pub levels_append : (levels count : ℕ) (xs ys ms ns : List T)
      → length xs ≡ count * leaves_below levels → Levels combine levels xs ms
      → Levels combine levels ys ns → Levels combine levels (xs ++ ys) (ms ++ ns)
  levels_append zero count xs ys ms ns whole h k = λ i. h i ++ k i
  levels_append (suc levels) count xs ys ms ns whole h k =
      let half = count * leaves_below levels in
      let both = next_append half xs ys h.0 k.0
      (whole ∙ mul-add count (leaves_below levels) (leaves_below levels)) h.1 k.1 in
      (h.0 ++ k.0, both.1, levels_append levels count h.0 k.0 ms ns both.0 h.2 k.2)

  -- no leaves have no nodes
  pub levels_none : (levels : ℕ) → Levels combine levels [] []
  levels_none zero = refl
  levels_none (suc levels) = ([], refl, levels_none levels)

  -- one level more, above the others
  levels_more : (levels : ℕ) (xs ms ns : List T) → Levels combine levels xs ms
      → NextLevel combine ms ns → Levels combine (suc levels) xs ns
  levels_more zero xs ms ns h k = (ns, subst (λ l. NextLevel combine l ns) h k, refl)
  levels_more (suc levels) xs ms ns h k = (h.0, h.1, levels_more levels h.0 ms ns h.2 k)

  -- a root of the nodes is one of the leaves
  root_above : (xs ms : List T) (root : Option T) → NextLevel combine xs ms
      → MerkleRoot combine ms root → MerkleRoot combine xs root
  root_above [] ms root h r = subst (λ l. MerkleRoot combine l root) h r
  root_above (x ∷ []) ms root h r = subst (λ l. MerkleRoot combine l root) h r
  root_above (x ∷ (y ∷ xs)) ms root h r = of_level h r

  pub root_of_levels : (levels : ℕ) (xs ms : List T) (root : Option T)
      → Levels combine levels xs ms → MerkleRoot combine ms root → MerkleRoot combine xs root
  root_of_levels zero xs ms root h r = subst (λ l. MerkleRoot combine l root) h r
  root_of_levels (suc levels) xs ms root h r = root_above xs h.0 root h.1
      (root_of_levels levels h.0 ms root h.2 r)

  -- the top of two halves of a block, of which the front one is full
  two_halves : (size half : ℕ) (xs ys : List T) (l r node : T) → 1 < size → half ≡ size / 2
      → length xs ≡ half → AreTops combine half xs (l ∷ []) → AreTops combine half ys (r ∷ [])
      → combine l r node → AreTops combine size (xs ++ ys) (node ∷ [])
  two_halves size half xs ys l r node more is full left right made levels at =
      let halves = half_below size half levels more is at in
      let below : half ≡ leaves_below halves.0 = halves.2 in
      let long : length xs ≡ 1 * leaves_below halves.0 =
      full ∙ below ∙ sym (one-mul (leaves_below halves.0)) in
      let both = levels_append halves.0 1 xs ys (l ∷ []) (r ∷ []) long
      (left halves.0 below) (right halves.0 below) in
      subst (λ n. Levels combine n (xs ++ ys) (node ∷ [])) (sym halves.1)
      (levels_more halves.0 (xs ++ ys) (l ∷ (r ∷ [])) (node ∷ []) both (made, refl))

  -- the top of the front half is that of the block where there are no more leaves
  one_half : (size half : ℕ) (xs : List T) (l : T) → 1 < size → half ≡ size / 2
      → AreTops combine half xs (l ∷ []) → AreTops combine size xs (l ∷ [])
  one_half size half xs l more is left levels at =
      let halves = half_below size half levels more is at in
      subst (λ n. Levels combine n xs (l ∷ [])) (sym halves.1)
      (levels_more halves.0 xs (l ∷ []) (l ∷ []) (left halves.0 halves.2) refl)

  -- one leaf is its own top
  pub leaf_top : (l : T) → AreTops combine 1 (l ∷ []) (l ∷ [])
  leaf_top l zero at = refl
  leaf_top l (suc levels) at =
      let lower = leaves_some levels in absurd (omega (arith, at, lower))

  -- the tops of two parts of the leaves, of which the front one has whole blocks
  pub tops_append : (size count : ℕ) (xs ys zs ms ns all : List T) → zs ≡ xs ++ ys
      → all ≡ ms ++ ns → length xs ≡ count * size → AreTops combine size xs ms
      → AreTops combine size ys ns → AreTops combine size zs all
  tops_append size count xs ys zs ms ns all cut joined whole h k levels at =
      subst (λ l. Levels combine levels l all) (sym cut)
      (subst (λ l. Levels combine levels (xs ++ ys) l) (sym joined)
      (levels_append levels count xs ys ms ns (whole ∙ ap (λ n. count * n) at) (h levels at)
      (k levels at)))

-- The tops of neighbours' items.
module _ {X T : Type 0} (leaf : X → T → Type 0) (combine : T → T → T → Type 0) where
  -- what two neighbours came to, as what both came to where neither was refused
  pub tops_together : {E : Type 0} (first second both : List X → Type 0) (size count : ℕ)
      (a b c : Result (Unit {0}) E) (FullA FullB FullC : Type 0) (ms ns all : List T)
      → ((xs ys : List X) → first xs → second ys → both (xs ++ ys))
      → ((xs : List X) → first xs → length xs ≡ count * size)
      → IfOk a (λ _. FullA
      × ((xs : List X) × first xs × AreTopsOf leaf combine size xs ms))
      → IfOk b (λ _. FullB
      × ((xs : List X) × second xs × AreTopsOf leaf combine size xs ns))
      → IfOk c (λ _. (a ≡ Ok tt) × (b ≡ Ok tt) × FullC × (all ≡ ms ++ ns))
      → IfOk c (λ _. FullC
      × ((xs : List X) × both xs × AreTopsOf leaf combine size xs all))
  tops_together first second both size count a b (Err e) FullA FullB FullC ms ns all joined whole
      left right at = tt
  tops_together first second both size count a b (Ok done) FullA FullB FullC ms ns all joined whole
      left right at =
      let front = subst (λ r. IfOk r (λ _. FullA
      × ((xs : List X) × first xs × AreTopsOf leaf combine size xs ms))) at.0 left in
      let back = subst (λ r. IfOk r (λ _. FullB
      × ((xs : List X) × second xs × AreTopsOf leaf combine size xs ns))) at.1 right in
      let xs = front.1.0 in let ys = back.1.0 in let ls = front.1.2.0 in let rs = back.1.2.0 in (
        at.2,
        (
          xs ++ ys,
          joined xs ys front.1.1 back.1.1,
          (
            ls ++ rs,
            MapOf-append leaf xs ys ls rs front.1.2.1 back.1.2.1,
            tops_append combine size count ls rs (ls ++ rs) ms ns all refl at.3
                (AllZip-long leaf xs ls front.1.2.1 ∙ whole xs front.1.1) front.1.2.2 back.1.2.2,
          ),
        ),
      )

-- Items that come of a cursor, and those that come after them.
module _ {C X R : Type 0} (ready : C → Type 0) (gives : C → List X → Type 0)
    (may : C → X → Type 0) (leaves : C → R → Type 0) where
  pub given_more : (a b c : C) (xs ys : List X) → HasGiven ready gives may leaves a xs b
      → HasGiven ready gives may leaves b ys c → HasGiven ready gives may leaves a (xs ++ ys) c
  given_more a b c xs ys first then = (
    then.0,
    λ more h. subst (gives a) (sym (append_assoc xs ys more))
        (first.1 (ys ++ more) (then.1 more h)),
    λ x h. first.2 x (then.2 x h),
    λ rest h. first.3 rest (then.3 rest h),
  )

  module _ {T : Type 0} (leaf : X → T → Type 0) (combine : T → T → T → Type 0) where
    -- the top of a full block and then of a block beside it that may have fewer items
    pub two_down : (a b c : C) (size half count total : ℕ) (l r node : T) → 1 < size
        → half ≡ size / 2 → total ≡ half + count
        → ComesDown (λ xs. HasGiven ready gives may leaves a xs b) leaf combine half half (l ∷ [])
        → ComesDown (λ xs. HasGiven ready gives may leaves b xs c) leaf combine half count (r ∷ [])
        → combine l r node
        → ComesDown (λ xs. HasGiven ready gives may leaves a xs c) leaf combine size total
        (node ∷ [])
    two_down a b c size half count total l r node more is all (xs, long, came, (ls, maps, tops))
        (ys, long_y, came_y, (rs, maps_y, tops_y)) made = (
          xs ++ ys,
          omega (arith, length-append xs ys, long, long_y, all),
          given_more a b c xs ys came came_y,
          (
            ls ++ rs,
            MapOf-append leaf xs ys ls rs maps maps_y,
            two_halves combine size half ls rs l r node more is (AllZip-long leaf xs ls maps ∙ long)
                tops tops_y made,
          ),
        )

    -- the top of the front half is that of the block where no more items come
    pub one_down : (a b : C) (size half count : ℕ) (l : T) → 1 < size → half ≡ size / 2
        → ComesDown (λ xs. HasGiven ready gives may leaves a xs b) leaf combine half count (l ∷ [])
        → ComesDown (λ xs. HasGiven ready gives may leaves a xs b) leaf combine size count (l ∷ [])
    one_down a b size half count l more is (xs, long, came, (ls, maps, tops)) =
        (xs, long, came, (ls, maps, one_half combine size half ls l more is tops))

    -- The tops of the blocks of the items that came so far, which are full where more are to come.
    abbrev pub SoFar : C → C → ℕ → ℕ → ℕ → List T → Type 0
    SoFar a b size count left tops = (xs : List X) × (length xs + left ≡ count)
        × HasGiven ready gives may leaves a xs b × AreTopsOf leaf combine size xs tops
        × (0 < left → length xs ≡ length tops * size)

    pub none_so_far : (a : C) (size count : ℕ) (tops : List T) → ready a → tops ≡ []
        → SoFar a a size count count tops
    none_so_far a size count tops at none = (
      [],
      omega arith,
      (at, λ more h. h, λ x h. h, λ rest h. h),
      (
        [],
        tt,
        λ levels below. subst (Levels combine levels []) (sym none)
            (levels_none combine levels),
      ),
      λ some. sym (ap (λ l. length l * size) none ∙ zero-mul size),
    )

    -- one block more
    pub block_more : (a b c : C) (size count left block rest : ℕ) (tops then : List T) (top : T)
        → 0 < left → block ≤ left → (0 < left - block → block ≡ size) → rest ≡ left - block
        → then ≡ tops ++ top ∷ [] → SoFar a b size count left tops
        → ComesDown (λ xs. HasGiven ready gives may leaves b xs c) leaf combine size block
        (top ∷ []) → SoFar a c size count rest then
    block_more a b c size count left block rest tops then top some within full less grown
        (xs, long, came, (ls, maps, are), whole) (ys, long_y, came_y, (rs, maps_y, are_y)) = (
          xs ++ ys,
          omega (arith, length-append xs ys, long, long_y, within, less),
          given_more a b c xs ys came came_y,
          (
            ls ++ rs,
            MapOf-append leaf xs ys ls rs maps maps_y,
            tops_append combine size (length tops) ls rs (ls ++ rs) tops (top ∷ []) then refl grown
                (AllZip-long leaf xs ls maps ∙ whole some) are are_y,
          ),
          λ more. length-append xs ys
              ∙ (λ i. whole some i + (long_y ∙ full (subst (λ n. 0 < n) less more)) i)
              ∙ ap (λ n. length tops * size + n) (sym (one-mul size))
              ∙ sym (add-mul (length tops) 1 size)
              ∙ sym (ap (λ l. length l * size) grown
              ∙ ap (λ n. n * size) (length-append tops (top ∷ []))),
        )

    -- all items came
    pub all_down : (a b : C) (size count left : ℕ) (tops : List T) → left ≡ 0
        → SoFar a b size count left tops
        → ComesDown (λ xs. HasGiven ready gives may leaves a xs b) leaf combine size count tops
    all_down a b size count left tops none (xs, long, came, are, whole) =
        (xs, omega (arith, long, none), came, are)

-- there is no leaf where there is no block
pub block_none : (size len count : ℕ) → AreBlocks size len count → count ≡ 0 → len ≡ 0
block_none size len count blocks none =
    omega (arith, blocks.0, ap (λ n. n * size) none ∙ zero-mul size)

-- after the first block there is one less
pub block_less : (size len count rest less : ℕ) → AreBlocks size len count → count ≡ less + 1
    → rest ≡ len - size → AreBlocks size rest less
block_less size len count rest less blocks more left =
    let all : count * size ≡ less * size + size =
    ap (λ n. n * size) more ∙ add-mul less 1 size ∙ ap (λ n. less * size + n) (one-mul size) in
    (omega (arith, blocks.0, all, left), omega (arith, blocks.1, all, left))

-- that many whole blocks in front, fewer than there are, and those of the rest
pub blocks_after : (size len count front : ℕ) → AreBlocks size len count → front < count
    → (front * size ≤ len) × AreBlocks size (len - front * size) (count - front)
blocks_after size len count front blocks fewer =
    let last = count - front - 1 in let back : count - front ≡ last + 1 = omega (arith, fewer) in
    let behind : (count - front) * size ≡ last * size + size =
    ap (λ n. n * size) back ∙ add-mul last 1 size ∙ ap (λ n. last * size + n) (one-mul size) in
    let both : count ≡ front + (count - front) = omega (arith, fewer) in
    let all : count * size ≡ front * size + (count - front) * size =
    ap (λ n. n * size) both ∙ add-mul front (count - front) size in (
      omega (arith, blocks.1, all, behind),
      (omega (arith, blocks.0, all, behind), omega (arith, blocks.1, all, behind)),
    )

-- there is some leaf where there is a block
pub block_some : (size len count : ℕ) → AreBlocks size len count → 0 < count → 0 < len
block_some size len count blocks some =
    let last = count - 1 in let back : count ≡ last + 1 = omega (arith, some) in
    let all : count * size ≡ last * size + size =
    ap (λ n. n * size) back ∙ add-mul last 1 size ∙ ap (λ n. last * size + n) (one-mul size) in
    omega (arith, blocks.1, all)
