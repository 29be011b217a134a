-- Claims that are cut at the ends of rows, piece by piece.
use Rattle.parallel_shares.proofs.Common.{◌≡◌, ℕ, zero, suc, ◌+◌, ◌-◌, ◌*◌, ◌≤◌, List, [], ◌∷◌, ◌++◌, Option, Some, None, refl, sym, ap, subst, ◌∙◌, append-nil, append_assoc, arith, range_with_len}
use Rattle.parallel_shares.proofs.Common.{Range, Stretch, Piece, range_cells, all_cells, stretch_cells, cut_cells, IsStretch, StartsAnew, AreApart, CutsCells, stretch_of, stretches_of, IsPiece}
use Rattle.parallel_shares.proofs.Common.{piece_cells, Parted, Grown}

-- ---- cells

-- neighbouring numbers in two parts
pub numbers_cut : (a m n : ℕ) → range_with_len a (m + n) ≡ range_with_len a m ++ range_with_len
    (a + m) n
numbers_cut a zero n =
    let e : zero + n ≡ n = omega arith in
    let f : a ≡ a + zero = omega arith in
    ap (range_with_len a) e ∙ ap (λ b. range_with_len b n) f
numbers_cut a (suc m) n =
    let e : suc m + n ≡ suc (m + n) = omega arith in
    let f : a + 1 + m ≡ a + suc m = omega arith in
    ap (range_with_len a) e ∙ ap (λ xs. a ∷ xs) (numbers_cut (a + 1) m n)
    ∙ ap (λ b. range_with_len a (suc m) ++ range_with_len b n) f

-- the cells of one claim more
pub cells_push : (rs : List (Range ℕ)) (r : Range ℕ)
    → all_cells (rs ++ r ∷ []) ≡ all_cells rs ++ range_cells r
cells_push [] r = append-nil (range_cells r)
cells_push (q ∷ qs) r = ap (λ xs. range_cells q ++ xs) (cells_push qs r)
    ∙ sym (append_assoc (range_cells q) (all_cells qs) (range_cells r))

module _ (len : ℕ) where
  -- the cells of one stretch more
  pub cut_push : (ss : List Stretch) (s : Stretch)
      → cut_cells len (ss ++ s ∷ []) ≡ cut_cells len ss ++ stretch_cells len s
  cut_push [] s = append-nil (stretch_cells len s)
  cut_push (t ∷ ts) s =
      ap (λ xs. stretch_cells len t ++ xs) (cut_push ts s)
      ∙ sym (append_assoc (stretch_cells len t) (cut_cells len ts) (stretch_cells len s))

  -- ---- the last stretch

  -- one stretch more, which starts anew
  apart_push : (ss : List Stretch) (s t : Stretch) → AreApart len (ss ++ s ∷ []) → IsStretch len t
      → StartsAnew s t → AreApart len ((ss ++ s ∷ []) ++ t ∷ [])
  apart_push [] s t h is anew = (h, anew, is)
  apart_push (x ∷ []) s t h is anew = (h.0, h.1, (h.2, anew, is))
  apart_push (x ∷ (y ∷ ss)) s t h is anew = (h.0, h.1, apart_push (y ∷ ss) s t h.2 is anew)

  -- the last stretch is one
  apart_last : (ss : List Stretch) (s : Stretch) → AreApart len (ss ++ s ∷ []) → IsStretch len s
  apart_last [] s h = h
  apart_last (x ∷ []) s h = h.2
  apart_last (x ∷ (y ∷ ss)) s h = apart_last (y ∷ ss) s h.2

  -- a longer one in place of the last
  apart_longer : (ss : List Stretch) (s t : Stretch) → AreApart len (ss ++ s ∷ []) → t.row ≡ s.row
      → t.columns.start ≡ s.columns.start → IsStretch len t → AreApart len (ss ++ t ∷ [])
  apart_longer [] s t h row start is = is
  apart_longer (x ∷ []) s t h row start is = (h.0, λ r e. h.1 (sym row ∙ r) (sym start ∙ e), is)
  apart_longer (x ∷ (y ∷ ss)) s t h row start is =
      (h.0, h.1, apart_longer (y ∷ ss) s t h.2 row start is)

  -- ---- one piece more

  -- the open stretch grows by a piece
  pub parted_grows : (cells : List ℕ) (found : List Stretch) (opened : Option Piece)
      (piece longer : Piece) → Grown opened piece (Some longer) → IsPiece len piece
      → Parted len cells found opened → Parted len (cells ++ piece_cells len piece) found
      (Some longer)
  parted_grows cells found None piece longer g is h = absurd g
  parted_grows cells found (Some p) piece longer (row, meets, same) is h =
      let whole : Piece = record { row = p.row; start = p.start; end = piece.end } in
      let old = apart_last found (stretch_of p) h.1 in
      let long : piece_cells len whole ≡ piece_cells len p ++ piece_cells len piece =
      let width : piece.end - p.start ≡ (p.end - p.start) + (piece.end - piece.start) =
      omega (arith, old.0, is.0, meets) in
      let at : p.row * len + p.start + (p.end - p.start) ≡ piece.row * len + piece.start =
      omega (arith, old.0, meets, ap (λ r. r * len) row) in
      ap (range_with_len (p.row * len + p.start)) width
      ∙ numbers_cut (p.row * len + p.start) (p.end - p.start) (piece.end - piece.start)
      ∙ ap (λ b. piece_cells len p ++ range_with_len b (piece.end - piece.start)) at
      in
      let cut : cut_cells len (found ++ stretch_of whole ∷ []) ≡ cells ++ piece_cells len piece =
      cut_push found (stretch_of whole) ∙ ap (λ xs. cut_cells len found ++ xs) long
      ∙ sym (append_assoc (cut_cells len found) (piece_cells len p) (piece_cells len piece))
      ∙ ap (λ xs. xs ++ piece_cells len piece) (sym (cut_push found (stretch_of p)) ∙ h.0)
      in
      subst (λ (q : Piece). CutsCells len (cells ++ piece_cells len piece)
      (found ++ stretch_of q ∷ [])) (sym same) (
        cut,
        apart_longer found (stretch_of p) (stretch_of whole) h.1 refl refl
            (omega (arith, old.0, is.0, meets), is.1),
      )

  -- the open stretch ends, and a piece starts anew
  pub parted_anew : (cells : List ℕ) (found : List Stretch) (opened : Option Piece) (piece : Piece)
      → Grown opened piece None → IsPiece len piece → Parted len cells found opened
      → Parted len (cells ++ piece_cells len piece) (found ++ stretches_of opened) (Some piece)
  parted_anew cells found None piece g is (none_found, no_cells) =
      rw (none_found, no_cells) (append-nil (piece_cells len piece), is)
  parted_anew cells found (Some p) piece anew is h = (
    cut_push (found ++ stretch_of p ∷ []) (stretch_of piece)
        ∙ ap (λ xs. xs ++ piece_cells len piece) h.0,
    apart_push found (stretch_of p) (stretch_of piece) h.1 is (λ row. anew (sym row)),
  )

  -- the open stretch ends
  pub parted_ends : (cells : List ℕ) (found : List Stretch) (opened : Option Piece)
      → Parted len cells found opened → CutsCells len cells (found ++ stretches_of opened)
  parted_ends cells found None (none_found, no_cells) = rw (none_found, no_cells) (refl, tt)
  parted_ends cells found (Some p) h = h

  -- the cells of a claim so far, and those of the next piece
  pub claim_more : (cells : List ℕ) (start at : ℕ) (piece : Piece) → start ≤ at
      → piece.row * len + piece.start ≡ at
      → (cells ++ range_with_len start (at - start)) ++ piece_cells len
      piece ≡ cells ++ range_with_len start (at + (piece.end - piece.start) - start)
  claim_more cells start at piece h e =
      let w : ℕ = piece.end - piece.start in
      let far : at + w - start ≡ (at - start) + w = omega (arith, h) in
      let from : start + (at - start) ≡ piece.row * len + piece.start = omega (arith, h, e) in
      append_assoc cells (range_with_len start (at - start)) (piece_cells len piece)
      ∙ ap (λ xs. cells ++ xs) (sym (ap (range_with_len start) far
      ∙ numbers_cut start (at - start) w
      ∙ ap (λ b. range_with_len start (at - start) ++ range_with_len b w) from))

-- nothing of a claim so far
pub claim_none : (cells : List ℕ) (start : ℕ)
    → cells ++ range_with_len start (start - start) ≡ cells
claim_none cells start =
    let e : start - start ≡ zero = omega arith in
    ap (λ n. cells ++ range_with_len start n) e ∙ append-nil cells

-- all of a claim
pub claim_all : (cells : List ℕ) (start at end : ℕ) → end ≤ at → at - start ≤ end - start
    → cells ++ range_with_len start (at - start) ≡ cells ++ range_with_len start (end - start)
claim_all cells start at end h l =
    let e : at - start ≡ end - start = omega arith in
    ap (λ n. cells ++ range_with_len start n) e
