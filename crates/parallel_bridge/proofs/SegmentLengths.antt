-- The lengths of the segments that a list is cut into: their sum, and how many there are.
use Rattle.parallel_bridge.proofs.Common.{◌≡◌, ℕ, zero, suc, ◌-◌, ◌*◌, ◌/◌, ◌^◌, ◌<◌, ◌≤◌, List, [], ◌∷◌, ◌++◌, length, take, drop, nat_lt, sum, refl, sym, ◌∙◌, ap, subst, append_assoc, arith}
use Rattle.parallel_bridge.proofs.Common.{length-take, length-drop, length-append, cond-false, cond_both, le-ltb, ltb-false, sum_by-append, leading_top, pow_pos, pow-succ', Shape, leaf_lengths}
use Rattle.parallel_bridge.proofs.Common.{halved_lengths, cutdepth}

-- only the length of a list matters for the lengths of its segments
pub shape_lengths : {X : Type 0} (k : ℕ) (xs : List X)
    → leaf_lengths (Shape k xs) ≡ halved_lengths k (length xs)
shape_lengths (suc k) (x ∷ (y ∷ xs)) =
    let zs = x ∷ (y ∷ xs) in let n = length zs / 2 in let long : 2 ≤ length zs = omega arith in
    let left : length (take n zs) ≡ n = simp length-take (omega arith) in
    let right : length (drop n zs) ≡ length zs - n = length-drop n zs in
    ap (λ l. l ++ leaf_lengths (Shape k (drop n zs)))
    (shape_lengths k (take n zs) ∙ ap (halved_lengths k) left)
    ∙ ap (λ l. halved_lengths k n ++ l) (shape_lengths k (drop n zs) ∙ ap (halved_lengths k) right)
    ∙ sym (cond-false (nat_lt (length zs) 2) (length zs ∷ [])
    (halved_lengths k n ++ halved_lengths k (length zs - n)) (le-ltb (length zs) 2 long))
shape_lengths u v = refl

-- the segments are the whole list
pub sum-halved : (k n : ℕ) → sum (halved_lengths k n) ≡ n
sum-halved zero n = omega arith
sum-halved (suc k) n =
    let left = sum-halved k (n / 2) in let right = sum-halved k (n - n / 2) in
    let joined = sum_by-append (λ n. n) (halved_lengths k (n / 2)) (halved_lengths k (n - n / 2)) in
    cond_both (nat_lt n 2) (n ∷ []) (halved_lengths k (n / 2) ++ halved_lengths k (n - n / 2))
    (λ l. sum l ≡ n) (λ _. omega arith) (λ _. omega (arith, left, right, joined))

-- there are at most twice as many segments for each level
pub length-halved_depth : (k n : ℕ) → length (halved_lengths k n) ≤ 2 ^ k
length-halved_depth zero n = omega arith
length-halved_depth (suc k) n =
    let left = length-halved_depth k (n / 2) in let right = length-halved_depth k (n - n / 2) in
    let joined = length-append (halved_lengths k (n / 2)) (halved_lengths k (n - n / 2)) in
    let double : 2 ^ suc k ≡ 2 * 2 ^ k = pow-succ' 2 k in let one : 0 < 2 ^ k = pow_pos k in
    cond_both (nat_lt n 2) (n ∷ []) (halved_lengths k (n / 2) ++ halved_lengths k (n - n / 2))
    (λ l. length l ≤ 2 ^ suc k) (λ _. omega arith) (λ _. omega (arith, left, right, joined))

-- a list that is not empty has no empty segment, so it has at most as many as items
pub length-halved_items : (k n : ℕ) → 0 < n → length (halved_lengths k n) ≤ n
length-halved_items zero n some = omega arith
length-halved_items (suc k) n some =
    let joined = length-append (halved_lengths k (n / 2)) (halved_lengths k (n - n / 2)) in
    cond_both (nat_lt n 2) (n ∷ []) (halved_lengths k (n / 2) ++ halved_lengths k (n - n / 2))
    (λ l. length l ≤ n) (λ _. omega arith) (λ e. let long : 2 ≤ n = ltb-false n 2 e in
    let left = length-halved_items k (n / 2) (omega arith) in
    let right = length-halved_items k (n - n / 2) (omega arith) in
    omega (arith, left, right, joined))

-- a word is less than 2 to the power of the number of its digits, and no less than half of that
pub cutdepth_bounds : (n : ℕ) → 0 < n → n < 2 ^ 64 → (n < 2 ^ cutdepth n)
    × (2 ^ (cutdepth n - 1) ≤ n) × (2 ^ cutdepth n ≤ 2 * n)
cutdepth_bounds n some fits =
    let top = leading_top 64 n some fits in
    let digits : cutdepth n ≡ suc top.0 = omega (arith, top.1) in
    let less : cutdepth n - 1 ≡ top.0 = omega (arith, digits) in
    (rw digits top.3, rw less top.2, rw (digits, pow-succ' 2 top.0) (omega (arith, top.2)))

-- a list of two items or more is split above depth 0, and the right part takes what is over
pub halved_more : (done : List ℕ) (after : List ℕ) (k n : ℕ) → 0 < k → 2 ≤ n
    → after ≡ done ++ halved_lengths (k - 1) (n / 2)
    → after ++ halved_lengths (k - 1) (n - n / 2) ≡ done ++ halved_lengths k n
halved_more done after zero n some long e = absurd (omega arith)
halved_more done after (suc k) n some long e =
    let less : suc k - 1 ≡ k = omega arith in let one = halved_lengths k (n / 2) in
    let two = halved_lengths k (n - n / 2) in
    let e' : after ≡ done ++ one = subst (λ m. after ≡ done ++ halved_lengths m (n / 2)) less e in
    ap (λ m. after ++ halved_lengths m (n - n / 2)) less ∙ ap (λ l. l ++ two) e'
    ∙ append_assoc done one two
    ∙ ap (λ l. done ++ l) (sym (cond-false (nat_lt n 2) (n ∷ []) (one ++ two) (le-ltb n 2 long)))

-- a list over n threads is cut into at most twice as many segments
pub shape_by_threads : {X : Type 0} (n : ℕ) (xs : List X) → 0 < n → n < 2 ^ 64
    → length (leaf_lengths (Shape (cutdepth n) xs)) ≤ 2 * n
shape_by_threads n xs some fits =
    let least : length (halved_lengths (cutdepth n) (length xs)) ≤ 2 ^ cutdepth n =
    length-halved_depth (cutdepth n) (length xs) in
    let most : 2 ^ cutdepth n ≤ 2 * n = (cutdepth_bounds n some fits).2 in
    rw (shape_lengths (cutdepth n) xs) (omega arith)

-- and into no more segments than it has items, where it has some
pub shape_by_items : {X : Type 0} (k : ℕ) (xs : List X) → 0 < length xs
    → length (leaf_lengths (Shape k xs)) ≤ length xs
shape_by_items k xs some = rw (shape_lengths k xs) (length-halved_items k (length xs) some)
