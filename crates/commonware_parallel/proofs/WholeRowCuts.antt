-- Claims of whole rows are cut into whole rows.
use Rattle.commonware_parallel.proofs.Common.{◌≡◌, ℕ, zero, suc, ◌+◌, ◌-◌, ◌*◌, ◌<◌, ◌≤◌, min, ◌⊎◌, inl, inr, List, [], ◌∷◌, ◌++◌, All, length, get_or, true, refl, sym, ap, ◌∙◌}
use Rattle.commonware_parallel.proofs.Common.{append_assoc, arith, range_with_len, Range, add-mul, mul-sub, mul_assoc, mul_comm, min-eq_left, min-eq_right, cases_lt, append_cancel_left, All-nil}
use Rattle.commonware_parallel.proofs.Common.{All-cons, All-head, All-tail, All-append, All-map, same_from_place, Stretch, IsFront, Work, sizes_of, IsStretch, AreApart, Cutting, all_cells}
use Rattle.commonware_parallel.proofs.Common.{cut_cells, range_cells, stretch_cells, times, inside_within, inside_after, times_range, CutsRectangle, IsWholeRow, whole_row, whole_rows}
use Rattle.std.specs.Int.{div_ceil}
use Rattle.parallel_shares.specs.Answers.{claim_stop}
use Rattle.parallel_shares.specs.Words.{start_of}
use Rattle.parallel_shares.proofs.Stretching.{numbers_cut}
use Rattle.commonware_parallel.proofs.Rectangles.{apart_head, apart_tail, cut_append, cuts}

-- ---- lists that begin with numbers

-- the first number of two lists
first_number : (a b m n : ℕ) (xs ys : List ℕ) → 0 < m → 0 < n
    → range_with_len a m ++ xs ≡ range_with_len b n ++ ys → a ≡ b
first_number a b zero n xs ys p q e = absurd (omega (arith, p))
first_number a b (suc m) zero xs ys p q e = absurd (omega (arith, q))
first_number a b (suc m) (suc n) xs ys p q e = ap (λ l. get_or l 0 0) e

-- a list that begins with a number is not empty
some_number : (a m : ℕ) (xs : List ℕ) → 0 < m → ¬ (range_with_len a m ++ xs ≡ [])
some_number a zero xs p e = omega (arith, p)
some_number a (suc m) xs p e =
    let l : suc (length (range_with_len (a + 1) m ++ xs)) ≡ 0 = ap length e in
    omega (arith, l)

-- after the shorter of two beginnings
left_over : (a b m n : ℕ) (xs ys : List ℕ) → a ≡ b → m ≤ n
    → range_with_len a m ++ xs ≡ range_with_len b n ++ ys
    → xs ≡ range_with_len (b + m) (n - m) ++ ys
left_over a b m n xs ys same short e =
    let width : n ≡ m + (n - m) = omega (arith, short) in
    let parts : range_with_len b n ++ ys ≡ range_with_len b
    m ++ (range_with_len (b + m) (n - m) ++ ys) =
    ap (λ w. range_with_len b w ++ ys) width ∙ ap (λ l. l ++ ys) (numbers_cut b m (n - m))
    ∙ append_assoc (range_with_len b m) (range_with_len (b + m) (n - m)) ys
    in
    append_cancel_left (range_with_len b m) xs (range_with_len (b + m) (n - m) ++ ys)
    (ap (λ c. range_with_len c m ++ xs) (sym same) ∙ e ∙ parts)

-- ---- a cutting of whole rows is whole rows

module _ (len : ℕ) (wide : 0 < len) where
  -- after a stretch that ends inside its row, its row does not go on
  not_short : (s : Stretch) (ss : List Stretch) (j : ℕ) (ys : List ℕ) → AreApart len (s ∷ ss)
      → s.columns.end < len → 0 < j → cut_cells len ss ≡ range_with_len
      (s.row * len + s.columns.end) j ++ ys → ⊥
  not_short s [] j ys apart short more e =
      some_number (s.row * len + s.columns.end) j ys more (sym e)
  not_short s (u ∷ us) j ys apart short more e =
      let is = apart_head len u us (apart_tail len s (u ∷ us) apart) in
      let first : u.row * len + u.columns.start ≡ s.row * len + s.columns.end = first_number
      (u.row * len + u.columns.start) (s.row * len + s.columns.end)
      (u.columns.end - u.columns.start) j (cut_cells len us) ys (omega (arith, is.0)) more e in
      let place = same_from_place u.row u.columns.start s.row s.columns.end len
      (omega (arith, is.0, is.1)) short first in
      apart.1 place.0 place.1

  pub whole_cut : (ss ts : List Stretch) → AreApart len ss → All (IsWholeRow len) ts
      → cut_cells len ss ≡ cut_cells len ts → All (IsWholeRow len) ss
  whole_cut [] ts apart all e = All-nil (IsWholeRow len)
  whole_cut (s ∷ ss) [] apart all e =
      let is = apart_head len s ss apart in
      absurd (some_number (s.row * len + s.columns.start) (s.columns.end - s.columns.start)
      (cut_cells len ss) (omega (arith, is.0)) e)
  whole_cut (s ∷ ss) (t ∷ ts) apart all e =
      let is = apart_head len s ss apart in
      let whole = All-head (IsWholeRow len) t ts all in
      let a : ℕ = s.row * len + s.columns.start in
      let b : ℕ = t.row * len + t.columns.start in
      let m : ℕ = s.columns.end - s.columns.start in
      let n : ℕ = t.columns.end - t.columns.start in
      let first : a ≡ b = first_number a b m n (cut_cells len ss) (cut_cells len ts)
      (omega (arith, is.0)) (omega (arith, whole.0, whole.1, wide)) e in
      let place = same_from_place s.row s.columns.start t.row t.columns.start len
      (omega (arith, is.0, is.1)) (omega (arith, whole.0, wide)) first in
      let rest : cut_cells len ss ≡ range_with_len (b + m) (n - m) ++ cut_cells len ts =
      left_over a b m n (cut_cells len ss) (cut_cells len ts) first
      (omega (arith, is.1, whole.0, whole.1)) e in
      elim (cases_lt s.columns.end len) as (λ _. All (IsWholeRow len) (s ∷ ss)) [
        | inl short ↦
            let at : b + m ≡ s.row * len + s.columns.end = omega (arith, first, is.0) in
            absurd (not_short s ss (n - m) (cut_cells len ts) apart short
            (omega (arith, short, whole.0, whole.1, place.1, is.0))
            (rest ∙ ap (λ c. range_with_len c (n - m) ++ cut_cells len ts) at))
        | inr long ↦
            let none : n - m ≡ 0 = omega (arith, long, whole.0, whole.1, place.1) in
            All-cons (IsWholeRow len) s ss (place.1 ∙ whole.0, omega (arith, long, is.1))
            (whole_cut ss ts (apart_tail len s ss apart) (All-tail (IsWholeRow len) t ts all)
            (rest ∙ ap (λ w. range_with_len (b + m) w ++ cut_cells len ts) none))
      ]

-- ---- claims of whole rows

pub rows_are_whole : (len row n : ℕ) → All (IsWholeRow len) (whole_rows len row n)
rows_are_whole len row n =
    All-map (IsWholeRow len) (whole_row len) (range_with_len row n) (λ i d h. (refl, refl))

-- the cells of one whole row
whole_cells : (len row : ℕ) → stretch_cells len (whole_row len row) ≡ range_with_len (row * len) len
whole_cells len row =
    let start : row * len + 0 ≡ row * len = omega arith in
    let width : len - 0 ≡ len = omega arith in
    ap (λ w. range_with_len (row * len + 0) w) width ∙ ap (λ a. range_with_len a len) start

their_cells : (len row n : ℕ) → cut_cells len (whole_rows len row n) ≡ range_with_len (row * len)
    (n * len)
their_cells len row zero = let e : 0 ≡ 0 * len = omega arith in ap (range_with_len (row * len)) e
their_cells len row (suc n) =
    let one : 1 * len ≡ len = omega arith in
    let next : (row + 1) * len ≡ row * len + len = add-mul row 1 len
    ∙ ap (λ x. row * len + x) one in
    let more : len + n * len ≡ suc n * len = omega arith in
    ap (λ xs. xs ++ cut_cells len (whole_rows len (row + 1) n)) (whole_cells len row)
    ∙ ap (λ xs. range_with_len (row * len) len ++ xs)
    (their_cells len (row + 1) n ∙ ap (λ a. range_with_len a (n * len)) next)
    ∙ sym (numbers_cut (row * len) len (n * len)) ∙ ap (range_with_len (row * len)) more

-- where units of whole rows end, or all rows do, a row ends
row_end : (len rows q : ℕ) → (n : ℕ) × (min (q * len) (rows * len) ≡ n * len)
row_end len rows q = elim (cases_lt (rows * len) (q * len)) [
  | inl l ↦ (rows, min-eq_right (omega (arith, l)))
  | inr m ↦ (q, min-eq_left m)
]

-- the cells between the ends of two rows
rows_between : (len n p : ℕ) → n * len - p * len ≡ (n - p) * len
rows_between len n p =
    ap (λ z. z - p * len) (mul_comm n len) ∙ ap (λ z. len * n - z) (mul_comm p len)
    ∙ sym (mul-sub len n p) ∙ mul_comm len (n - p)

module _ (work : Work) (whole : work.whole ≡ true) where
  -- the cells of a front are those of whole rows
  front_rows : (range : Range ℕ) → IsFront (sizes_of work) range → (ts : List Stretch)
      × All (IsWholeRow work.len) ts × (cut_cells work.len ts ≡ range_cells range)
  front_rows range (word, _, _, is) =
      let len = work.len in
      let k : ℕ = div_ceil work.rows 65535 in
      let p : ℕ = start_of word * k in
      let q : ℕ = claim_stop (sizes_of work) word in
      let unit : (sizes_of work).unit ≡ len * k = rw whole refl in
      let cells : (x : ℕ) → x * (sizes_of work).unit ≡ (x * k) * len =
      λ x. ap (λ u. x * u) (unit ∙ mul_comm len k) ∙ sym (mul_assoc x k len) in
      let end = row_end len work.rows (q * k) in
      let n : ℕ = end.0 - p in
      let start : range.start ≡ p * len = ap (λ (r : Range ℕ). r.start) is
      ∙ cells (start_of word) in
      let stop : range.end ≡ end.0 * len = ap (λ (r : Range ℕ). r.end) is
      ∙ ap (λ x. min x (work.rows * len)) (cells q) ∙ end.1 in
      let width : range.end - range.start ≡ n * len = ap (λ x. x - range.start) stop
      ∙ ap (λ x. end.0 * len - x) start ∙ rows_between len end.0 p in (
        whole_rows len p n,
        rows_are_whole len p n,
        their_cells len p n
            ∙ ap (λ a. range_with_len a (n * len)) (sym start)
            ∙ ap (range_with_len range.start) (sym width),
      )

  fronts_rows : (ranges : List (Range ℕ)) → All (IsFront (sizes_of work)) ranges
      → (ts : List Stretch) × All (IsWholeRow work.len) ts
      × (cut_cells work.len ts ≡ all_cells ranges)
  fronts_rows [] all = ([], All-nil (IsWholeRow work.len), refl)
  fronts_rows (range ∷ ranges) all =
      let one = front_rows range (All-head (IsFront (sizes_of work)) range ranges all) in
      let rest = fronts_rows ranges (All-tail (IsFront (sizes_of work)) range ranges all) in (
        one.0 ++ rest.0,
        All-append (IsWholeRow work.len) one.0 rest.0 one.1 rest.1,
        cut_append work.len one.0 rest.0 ∙ ap (λ xs. xs ++ cut_cells work.len rest.0) one.2
            ∙ ap (λ xs. range_cells range ++ xs) rest.2,
      )

  -- fronts of whole rows are cut into whole rows
  pub fronts_cut : (ranges : List (Range ℕ)) (cut : List Stretch) → 0 < work.len
      → All (IsFront (sizes_of work)) ranges → Cutting ranges work.len cut
      → All (IsWholeRow work.len) cut
  fronts_cut ranges cut wide all h =
      let rows = fronts_rows ranges all in
      whole_cut work.len wide cut rows.0 h.1 rows.1 (h.0 ∙ sym rows.2)

-- ---- a serial plan

-- whole rows cut the grid
pub whole_rectangle : (rows len : ℕ) → 0 < len → CutsRectangle rows len (whole_rows len 0 rows)
whole_rectangle rows len wide =
    let first : 0 * len ≡ 0 = omega arith in
    let cells : cut_cells len (whole_rows len 0 rows) ≡ range_with_len 0 (rows * len) =
    their_cells len 0 rows ∙ ap (λ a. range_with_len a (rows * len)) first in
    cuts rows len (rows * len) (whole_rows len 0 rows) refl
    (All-map (IsStretch len) (whole_row len) (range_with_len 0 rows)
    (λ i d h. (wide, omega arith)))
    (λ k h. ap (times k) cells ∙ times_range k 0 (rows * len)
    ∙ inside_within k 0 (0 + rows * len) (omega arith) (omega (arith, h)))
    (λ k h. ap (times k) cells ∙ times_range k 0 (rows * len)
    ∙ inside_after k 0 (0 + rows * len) (omega (arith, h)))

-- a grid of no cell is cut into no stretch
pub no_rectangle : (rows len : ℕ) → (rows ≡ 0) ⊎ (len ≡ 0) → CutsRectangle rows len []
no_rectangle rows len (inl e) = record {
  within = All-nil (λ s. (s.row < rows) × IsStretch len s);
  once = λ row column r c. absurd (omega (arith, r, e));
}
no_rectangle rows len (inr e) = record {
  within = All-nil (λ s. (s.row < rows) × IsStretch len s);
  once = λ row column r c. absurd (omega (arith, c, e));
}
