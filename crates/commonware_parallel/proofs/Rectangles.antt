-- From how often cells are in claims to stretches that cut a rectangle.
use Rattle.commonware_parallel.proofs.Common.{◌≡◌, ℕ, ◌+◌, ◌-◌, ◌*◌, ◌<◌, ◌≤◌, inl, inr, List, [], ◌∷◌, ◌++◌, All, refl, sym, ap, ◌∙◌, append_assoc, arith, range_with_len, Range, cases_lt}
use Rattle.commonware_parallel.proofs.Common.{cases_order, eq-eqb, ne_eqb, All-nil, All-cons, All-head, All-tail, row_fits, Stretch, inside, in_ranges, same_number, IsStretch, AreApart, all_cells}
use Rattle.commonware_parallel.proofs.Common.{cut_cells, range_cells, stretch_cells, total, times, inside_within, inside_before, inside_after, times_range, total_append, has_cell, CutsRectangle}
use Rattle.std.proofs.lemmas.Bool.Decides.{nat_tests}

-- ---- counts of cells

-- a range counted from another number
shifted : (base c s e k a : ℕ) → k ≡ base + c → a ≡ base + s
    → inside c s e ≡ inside k a (a + (e - s))
unfolding inside
shifted base c s e k a p q = grind (arith, nat_tests)

-- the numbers of a range, counted from its start
counted_from : (k s e : ℕ) → inside k s (s + (e - s)) ≡ inside k s e
unfolding inside
counted_from k s e = grind (arith, nat_tests)

-- how often a cell is in ranges, and in their cells
pub times_all : (k : ℕ) (rs : List (Range ℕ)) → times k (all_cells rs) ≡ in_ranges k rs
times_all k [] = refl
times_all k (r ∷ rs) =
    omega (
      arith,
      total_append (same_number k) (range_cells r) (all_cells rs),
      times_range k r.start (r.end - r.start),
      counted_from k r.start r.end,
      times_all k rs,
    )

-- two cuttings, one after the other
pub cut_append : (len : ℕ) (ss ts : List Stretch)
    → cut_cells len (ss ++ ts) ≡ cut_cells len ss ++ cut_cells len ts
cut_append len [] ts = refl
cut_append len (s ∷ ss) ts =
    ap (λ xs. stretch_cells len s ++ xs) (cut_append len ss ts)
    ∙ sym (append_assoc (stretch_cells len s) (cut_cells len ss) (cut_cells len ts))

-- ---- stretches that are apart

pub apart_head : (len : ℕ) (s : Stretch) (ss : List Stretch) → AreApart len (s ∷ ss)
    → IsStretch len s
apart_head len s [] h = h
apart_head len s (t ∷ ss) h = h.0

pub apart_tail : (len : ℕ) (s : Stretch) (ss : List Stretch) → AreApart len (s ∷ ss)
    → AreApart len ss
apart_tail len s [] h = tt
apart_tail len s (t ∷ ss) h = h.2

pub apart_each : (len : ℕ) (ss : List Stretch) → AreApart len ss → All (IsStretch len) ss
apart_each len [] h = All-nil (IsStretch len)
apart_each len (s ∷ ss) h = All-cons (IsStretch len) s ss (apart_head len s ss h)
    (apart_each len ss (apart_tail len s ss h))

-- ---- the rectangle

-- a row's cells stand before those of the next rows
module _ (len row column : ℕ) (below : column < len) where
  has_one : (s : Stretch) → IsStretch len s
      → has_cell row column s ≡ times (row * len + column) (stretch_cells len s)
  has_one s is =
      let k : ℕ = row * len + column in
      let a : ℕ = s.row * len + s.columns.start in
      let w : ℕ = s.columns.end - s.columns.start in
      let counts : times k (range_with_len a w) ≡ inside k a (a + w) = times_range k a w in
      elim (cases_order s.row row) as (λ _. has_cell row column s ≡ times k (stretch_cells len s)) [
        | inl e ↦
            let same : s.row * len ≡ row * len = ap (λ r. r * len) e in
            rw (eq-eqb s.row row e) (shifted
            (row * len) column s.columns.start s.columns.end k a refl (omega (arith, same))
            ∙ sym counts)
        | inr (inl l) ↦
            rw (ne_eqb s.row row (λ e. omega (arith, e, l)))
            (sym (counts ∙ inside_after k a (a + w)
            (omega (arith, row_fits s.row len row len l (omega arith), is.0, is.1))))
        | inr (inr m) ↦
            rw (ne_eqb s.row row (λ e. omega (arith, e, m)))
            (sym (counts ∙ inside_before k a (a + w)
            (omega (arith, row_fits row len s.row len m (omega arith), below))))
      ]

  -- a cell is in stretches as often as in their cells
  pub has_all : (cut : List Stretch) → All (IsStretch len) cut
      → total (has_cell row column) cut ≡ times (row * len + column) (cut_cells len cut)
  has_all [] h = refl
  has_all (s ∷ ss) h =
      omega (
        arith,
        has_one s (All-head (IsStretch len) s ss h),
        has_all ss (All-tail (IsStretch len) s ss h),
        total_append (same_number (row * len + column)) (stretch_cells len s) (cut_cells len ss),
      )

-- a row at or after another one does not start before it
starts_behind : (rows row len : ℕ) → rows ≤ row → rows * len ≤ row * len
starts_behind rows row len h =
    elim (cases_lt rows row) as (λ _. rows * len ≤ row * len) [
      | inl l ↦ omega (arith, row_fits rows len row len l (omega arith))
      | inr m ↦ let e : rows * len ≡ row * len =
          ap (λ r. r * len) (omega (arith, h, m)) in omega (arith, e)
    ]

-- a row that starts before the end of the rows is one of them
pub row_there : (rows row len : ℕ) → row * len < rows * len → row < rows
row_there rows row len h = elim (cases_lt row rows) as (λ _. row < rows) [
  | inl l ↦ l
  | inr m ↦ absurd (omega (arith, h, starts_behind rows row len m))
]

-- where no cell is at or after the rows, no stretch is
within_rows : (rows len : ℕ) (cut : List Stretch) → All (IsStretch len) cut
    → ((k : ℕ) → rows * len ≤ k → times k (cut_cells len cut) ≡ 0)
    → All (λ s. (s.row < rows) × IsStretch len s) cut
within_rows rows len [] h none = All-nil (λ s. (s.row < rows) × IsStretch len s)
within_rows rows len (s ∷ ss) h none =
    let is = All-head (IsStretch len) s ss h in
    let parts : (k : ℕ) → times k (cut_cells len (s ∷ ss)) ≡ times k (stretch_cells len s) + times k
    (cut_cells len ss) = λ k. total_append (same_number k) (stretch_cells len s)
    (cut_cells len ss) in
    let a : ℕ = s.row * len + s.columns.start in
    let w : ℕ = s.columns.end - s.columns.start in
    let there : times a (stretch_cells len s) ≡ 1 = times_range a a w
    ∙ inside_within a a (a + w) (omega arith) (omega (arith, is.0)) in
    let before_end : s.row < rows = elim (cases_lt s.row rows) as (λ _. s.row < rows) [
      | inl l ↦ l
      | inr m ↦ absurd (omega (
        arith,
        there,
        parts a,
        none a (omega (arith, starts_behind rows s.row len m)),
      ))
    ] in
    All-cons (λ t. (t.row < rows) × IsStretch len t) s ss (before_end, is)
    (within_rows rows len ss (All-tail (IsStretch len) s ss h)
    (λ k l. omega (arith, parts k, none k l)))

-- stretches with each cell of the rows once, and no other one, cut them
pub cuts : (rows len cells : ℕ) (cut : List Stretch) → cells ≡ rows * len → All (IsStretch len) cut
    → ((k : ℕ) → k < cells → times k (cut_cells len cut) ≡ 1)
    → ((k : ℕ) → cells ≤ k → times k (cut_cells len cut) ≡ 0) → CutsRectangle rows len cut
cuts rows len cells cut all are once no_more = record {
  within = within_rows rows len cut are (λ k h. no_more k (omega (arith, all, h)));
  once = λ row column r c. has_all len row column c cut are
      ∙ once (row * len + column) (omega
      (arith, all, c, row_fits row len rows len r (omega arith)));
}
