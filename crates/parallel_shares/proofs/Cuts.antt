-- What follows for ranges that cut a line of indices, and for balanced ones.
use Rattle.parallel_shares.proofs.Common.{flat_map, range_with_len, ◌∙◌, ◌≡◌, ℕ, suc, ◌+◌, ◌-◌, ◌*◌, ◌/◌, ◌<◌, ◌≤◌, inl, inr, List, [], ◌∷◌, ◌++◌, length, All, refl, sym, ap}
use Rattle.parallel_shares.proofs.Common.{subst, arith, sum_by, All-nil, All-cons, All-head, All-tail, All-weaker, cases_lt, le-div, Range, range_length, CutsFrom, IsEven, BalancedCut}
use Rattle.parallel_shares.proofs.Stretching.{numbers_cut}
use Rattle.std.proofs.lemmas.List.Sums.{sum_by-cons}
use Rattle.std.proofs.Math.Nat.{div-eq_of_lt-le, div-mul-le_self, mul-le-mul_right}

-- two cuts, the second from where the first ends, are one cut
pub CutsFrom-append : (from middle to : ℕ) (rs ss : List (Range ℕ)) → CutsFrom from rs middle
    → CutsFrom middle ss to → CutsFrom from (rs ++ ss) to
CutsFrom-append from middle to [] ss cuts more =
    let P : ℕ → Type 0 = λ n. CutsFrom n ss to in
    subst P (sym cuts) more
CutsFrom-append from middle to (r ∷ rs) ss cuts more =
    (cuts.0, cuts.1, CutsFrom-append r.end middle to rs ss cuts.2 more)

-- a cut goes on by a range that begins where it ends
pub CutsFrom-push : (from : ℕ) (rs : List (Range ℕ)) (r : Range ℕ) → CutsFrom from rs r.start
    → r.start ≤ r.end → CutsFrom from (rs ++ r ∷ []) r.end
CutsFrom-push from rs r cuts ordered =
    CutsFrom-append from r.start r.end rs (r ∷ []) cuts (refl, ordered, refl)

-- a cut does not end before it begins
pub CutsFrom-ordered : (from to : ℕ) (rs : List (Range ℕ)) → CutsFrom from rs to → from ≤ to
CutsFrom-ordered from to [] cuts = omega arith
CutsFrom-ordered from to (r ∷ rs) cuts =
    let rest = CutsFrom-ordered r.end to rs cuts.2 in
    omega arith

-- the lengths of a cut's ranges add up to the number of its indices
pub CutsFrom-sum : (from to : ℕ) (rs : List (Range ℕ)) → CutsFrom from rs to
    → from + sum_by range_length rs ≡ to
CutsFrom-sum from to [] cuts = omega (arith, cuts)
CutsFrom-sum from to (r ∷ rs) cuts =
    omega (arith, sum_by-cons range_length r rs, CutsFrom-sum r.end to rs cuts.2)

-- the second range has no more indices than the first, and at most one less
abbrev IsLaterOf : Range ℕ → Range ℕ → Type 0
IsLaterOf a b = (range_length b ≤ range_length a) × (range_length a ≤ range_length b + 1)

-- the first range is as long as each other one, or longer by one
IsEven-head : (r : Range ℕ) (rs : List (Range ℕ)) → IsEven (r ∷ rs) → All (IsLaterOf r) rs
IsEven-head r rs even = λ k d within. even 0 (suc k) d (omega arith) (omega arith)

-- the ranges after the first are even
IsEven-tail : (r : Range ℕ) (rs : List (Range ℕ)) → IsEven (r ∷ rs) → IsEven rs
IsEven-tail r rs even = λ i j d before within. even (suc i) (suc j) d (omega arith) (omega arith)

-- ranges that each have at least m indices
sum_by-at_least : (m : ℕ) (rs : List (Range ℕ)) → All (λ r. m ≤ range_length r) rs
    → length rs * m ≤ sum_by range_length rs
sum_by-at_least m [] all = omega arith
sum_by-at_least m (r ∷ rs) all =
    let first : m ≤ range_length r = All-head (λ s. m ≤ range_length s) r rs all in
    let longer : length (r ∷ rs) * m ≡ (length rs + 1) * m = ap (λ n. n * m) (omega arith) in
    omega (
      arith,
      first,
      longer,
      sum_by-cons range_length r rs,
      sum_by-at_least m rs (All-tail (λ s. m ≤ range_length s) r rs all),
    )

-- the range has `shorter` indices or one more
abbrev pub IsNear : ℕ → Range ℕ → Type 0
IsNear shorter r = (shorter ≤ range_length r) × (range_length r ≤ shorter + 1)

-- each range is near the number, and not all of them have one index more
record IsNearOne (rs : List (Range ℕ)) (shorter : ℕ) : Type 0 where
  near : All (IsNear shorter) rs
  below : sum_by range_length rs < length rs * (shorter + 1)

-- a first range is near the number that those after it are near
IsNearOne-cons : (r s : Range ℕ) (rs : List (Range ℕ)) (shorter : ℕ) → IsEven (r ∷ s ∷ rs)
    → IsNearOne (s ∷ rs) shorter → IsNearOne (r ∷ s ∷ rs) shorter
IsNearOne-cons r s rs shorter even rest =
    let ss = s ∷ rs in
    let apart = IsEven-head r ss even in
    let by_second : IsLaterOf r s = All-head (IsLaterOf r) s rs apart in
    let second : IsNear shorter s = All-head (IsNear shorter) s rs rest.near in
    let longer : length (r ∷ ss) * (shorter + 1) ≡ (length ss + 1) * (shorter + 1) =
    ap (λ n. n * (shorter + 1)) (omega arith) in
    elim (cases_lt (shorter + 1) (range_length r)) [
      | inl long ↦
          let all : All (λ t. shorter + 1 ≤ range_length t) ss = All-weaker (IsLaterOf r)
          (λ t. shorter + 1 ≤ range_length t) (λ t h. omega (arith, h.1)) ss apart in
          absurd (omega (arith, sum_by-at_least (shorter + 1) ss all, rest.below))
      | inr short ↦ record {
        near =
            All-cons (IsNear shorter) r ss (omega (arith, second.0, by_second.0), short) rest.near;
        below = omega (arith, longer, sum_by-cons range_length r ss, rest.below);
      }
    ]

-- some number is near to each of the ranges
IsNearOne-from_even : (r : Range ℕ) (rs : List (Range ℕ)) → IsEven (r ∷ rs) → (shorter : ℕ)
    × IsNearOne (r ∷ rs) shorter
IsNearOne-from_even r [] even = (
  range_length r,
  record {
    near = All-cons (IsNear (range_length r)) r [] (omega arith, omega arith)
        (All-nil (IsNear (range_length r)));
    below = omega (arith, sum_by-cons range_length r []);
  },
)
IsNearOne-from_even r (s ∷ rs) even =
    let rest = IsNearOne-from_even s rs (IsEven-tail r (s ∷ rs) even) in
    (rest.0, IsNearOne-cons r s rs rest.0 even rest.1)

-- each range has the whole number of indices that is its share, or one more
pub BalancedCut-near : (len : ℕ) (rs : List (Range ℕ)) → BalancedCut len rs → 0 < length rs
    → All (IsNear (len / length rs)) rs
BalancedCut-near len [] cut some = absurd (omega arith)
BalancedCut-near len (r ∷ rs) cut some =
    let ss = r ∷ rs in
    let one = IsNearOne-from_even r rs cut.1 in
    let total = CutsFrom-sum 0 len ss cut.0 in
    let least : All (λ s. one.0 ≤ range_length s) ss =
    All-weaker (IsNear one.0) (λ s. one.0 ≤ range_length s) (λ s h. h.0) ss one.1.near in
    let is : len / length ss ≡ one.0 = div-eq_of_lt-le (length ss)
    (omega (arith, total, sum_by-at_least one.0 ss least))
    (omega (arith, total, one.1.below)) in
    rw is one.1.near

-- each range has at least its share of the indices
pub BalancedCut-at_least : (len : ℕ) (rs : List (Range ℕ)) → BalancedCut len rs → 0 < length rs
    → All (λ r. len / length rs ≤ range_length r) rs
BalancedCut-at_least len rs cut some = All-weaker (IsNear (len / length rs))
    (λ r. len / length rs ≤ range_length r) (λ r h. h.0) rs (BalancedCut-near len rs cut some)

-- no more ranges than the indices have room for: none is shorter than the minimum
pub BalancedCut-minimum : (len minimum : ℕ) (rs : List (Range ℕ)) → BalancedCut len rs
    → length rs * minimum ≤ len → All (λ r. minimum ≤ range_length r) rs
BalancedCut-minimum len minimum [] cut room = All-nil (λ r. minimum ≤ range_length r)
BalancedCut-minimum len minimum (r ∷ rs) cut room =
    let share : minimum ≤ len / length (r ∷ rs) =
    le-div minimum len (length (r ∷ rs)) (omega arith) (omega arith) in
    All-weaker (λ s. len / length (r ∷ rs) ≤ range_length s) (λ s. minimum ≤ range_length s)
    (λ s h. omega arith) (r ∷ rs) (BalancedCut-at_least len (r ∷ rs) cut (omega arith))

-- the same, where the ranges are no more than the minimum's times in the indices
pub BalancedCut-minimum_share : (len minimum : ℕ) (rs : List (Range ℕ)) → BalancedCut len rs
    → length rs ≤ len / minimum → All (λ r. minimum ≤ range_length r) rs
BalancedCut-minimum_share len minimum rs cut few =
    let room : length rs * minimum ≤ len / minimum * minimum = mul-le-mul_right minimum few in
    BalancedCut-minimum len minimum rs cut (omega (arith, div-mul-le_self len minimum))

-- a range's indices
abbrev pub indices_of : Range ℕ → List ℕ
indices_of r = range_with_len r.start (range_length r)

-- a run of numbers, and then the numbers that go on from it, are one run
range_with_len-joined : (a b c n m total : ℕ) (xs : List ℕ) → b ≡ a → c ≡ a + n
    → xs ≡ range_with_len c m → n + m ≡ total → range_with_len b n ++ xs ≡ range_with_len a total
range_with_len-joined a b c n m total xs starts goes_on more all =
    ap (λ k. range_with_len k n ++ xs) starts
    ∙ ap (λ ys. range_with_len a n ++ ys) (more ∙ ap (λ k. range_with_len k m) goes_on)
    ∙ sym (numbers_cut a n m)
    ∙ ap (λ k. range_with_len a k) all

-- the indices of a cut's ranges, one range after another, are all of its indices in order
pub CutsFrom-indices : (from to : ℕ) (rs : List (Range ℕ)) → CutsFrom from rs to
    → flat_map indices_of rs ≡ range_with_len from (to - from)
CutsFrom-indices from to [] cuts = let none : to - from ≡ 0 = omega (arith, cuts) in rw none refl
CutsFrom-indices from to (r ∷ rs) cuts =
    range_with_len-joined from r.start r.end (range_length r) (to - r.end) (to - from)
    (flat_map indices_of rs) cuts.0 (omega (arith, cuts.0, cuts.1))
    (CutsFrom-indices r.end to rs cuts.2)
    (omega (arith, cuts.0, cuts.1, CutsFrom-ordered r.end to rs cuts.2))

-- the ranges of a balanced cut have each index once, in order
pub BalancedCut-indices : (len : ℕ) (rs : List (Range ℕ)) → BalancedCut len rs
    → flat_map indices_of rs ≡ range_with_len 0 len
BalancedCut-indices len rs cut = CutsFrom-indices 0 len rs cut.0
    ∙ ap (λ n. range_with_len 0 n) (omega arith)
