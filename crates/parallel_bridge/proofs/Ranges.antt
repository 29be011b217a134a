-- The numbers from one on up to another.
use Rattle.parallel_bridge.proofs.Common.{◌≡◌, ℕ, zero, suc, ◌≤◌, ◌<◌, ◌+◌, ◌-◌, List, ◌∷◌, ◌++◌, ap, ◌∙◌, arith, All, AllByRecursion, range_with_len, length, length-range_with_len, All-from_recursion}

between : (K : ℕ → Type 0) (a n : ℕ) → ((x : ℕ) → a ≤ x → x < a + n → K x)
    → AllByRecursion K (range_with_len a n)
between K a zero each = tt
between K a (suc n) each = (
  each a (omega arith) (omega arith),
  between K (a + 1) n (λ x low high. each x (omega arith) (omega arith)),
)

-- each index of a range lies in it
pub indices_between : (a b : ℕ) → All (λ x. (a ≤ x) × (x < b)) (range_with_len a (b - a))
indices_between a b = All-from_recursion (λ x. (a ≤ x) × (x < b)) (range_with_len a (b - a))
    (between (λ x. (a ≤ x) × (x < b)) a (b - a) (λ x low high. (low, omega arith)))

joins : (a m n : ℕ) → range_with_len a m ++ range_with_len (a + m) n ≡ range_with_len a (m + n)
joins a zero n =
    let here : a + 0 ≡ a = omega arith in let all : n ≡ 0 + n = omega arith in
    ap (λ k. range_with_len k n) here ∙ ap (range_with_len a) all
joins a (suc m) n =
    let there : a + suc m ≡ a + 1 + m = omega arith in
    let one : suc (m + n) ≡ suc m + n = omega arith in
    ap (λ k. range_with_len a (suc m) ++ range_with_len k n) there
    ∙ (ap (λ l. a ∷ l) (joins (a + 1) m n) ∙ ap (range_with_len a) one)

-- a range that is cut at an index
pub indices_split : (a b index : ℕ) (xs ys : List ℕ) → index ≤ b - a
    → xs ≡ range_with_len a (a + index - a) → ys ≡ range_with_len (a + index) (b - (a + index))
    → xs ++ ys ≡ range_with_len a (b - a)
indices_split a b index xs ys within front back =
    let m : a + index - a ≡ index = omega arith in
    let n : index + (b - (a + index)) ≡ b - a = omega arith in
    ap (λ l. l ++ ys) (front ∙ ap (range_with_len a) m)
    ∙ (ap (λ l. range_with_len a index ++ l) back
    ∙ (joins a index (b - (a + index)) ∙ ap (range_with_len a) n))

-- there are that many
pub indices_long : (a n : ℕ) → length (range_with_len a n) ≡ n
indices_long a n = length-range_with_len a n
