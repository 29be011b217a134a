-- Fills and finishes along a cutting that is on its way.
use Rattle.parallel_shares.proofs.Common.{◌≡◌, ℕ, ◌<◌, List, [], ◌∷◌, ◌++◌, Option, Some, None, refl, sym, subst, ◌∙◌, append-nil, arith, Range, Stretch, Piece, CutsCells, stretch_of, stretches_of}
use Rattle.parallel_shares.proofs.Common.{IsPiece, piece_cells, Grown, no_fill, last_fill, Finished, FilledOpen, Closes, Underway}
use Rattle.parallel_shares.proofs.Stretching.{parted_grows, parted_anew, parted_ends}

module _ {T R : Type 0} (fill : T → ℕ → Range ℕ → T → Type 0)
    (ends : T → Stretch → R → T → Type 0) where
  -- two chains, the second from where the first ends
  pub finished_append : (s u t : T) (xs ys : List Stretch) (rs qs : List R)
      → Finished fill ends s xs rs u → Finished fill ends u ys qs t
      → Finished fill ends s (xs ++ ys) (rs ++ qs) t
  finished_append s u t [] ys [] qs e h = subst (λ v. Finished fill ends v ys qs t) (sym e) h
  finished_append s u t [] ys (r ∷ rs) qs wrong h = absurd wrong
  finished_append s u t (x ∷ xs) ys [] qs wrong h = absurd wrong
  finished_append s u t (x ∷ xs) ys (r ∷ rs) qs (v, one, rest) h =
      (v, one, finished_append v u t xs ys rs qs rest h)

  -- the open stretch got its result
  closed : (s u t : T) (xs : List Stretch) (opened : Option Piece) (before after : List R) (m : T)
      → Finished fill ends s xs before m → FilledOpen fill m opened u
      → Closes ends opened u before t after
      → Finished fill ends s (xs ++ stretches_of opened) after t
  closed s u t xs None before after m done open_ (same, none_more) =
      let to : m ≡ t = open_ ∙ same in
      rw (append-nil xs, none_more, ← to) done
  closed s u t xs (Some p) before after m done open_ (r, gives, more) =
      rw more
      (finished_append s m t xs (stretch_of p ∷ []) before (r ∷ []) done
      (t, (u, open_, gives), refl))

  -- a stretch that was filled so far is filled further
  filled_more : (before s t : T) (opened : Option Piece) (piece longer : Piece)
      → FilledOpen fill before opened s → Grown opened piece (Some longer) → piece.start < piece.end
      → fill s piece.row (record { start = piece.start; end = piece.end }) t
      → FilledOpen fill before (Some longer) t
  filled_more before s t None piece longer f wrong some fills = absurd wrong
  filled_more before s t (Some p) piece longer f (row, meets, same) some fills =
      let next : fill s p.row (record { start = p.end; end = piece.end }) t =
      rw (row, meets) fills in
      rw same (last_fill before s t p.start p.end piece.end f (omega (arith, meets, some)) next)

  module _ (len : ℕ) (first : T) (cells : List ℕ) (opened : Option Piece) (results : List R) (s : T)
      (way : Underway fill ends len first cells opened results s) where
    -- the open stretch grows by a piece
    pub way_grows : (piece longer : Piece) (t : T) → Grown opened piece (Some longer)
        → IsPiece len piece → fill s piece.row (record { start = piece.start; end = piece.end }) t
        → Underway fill ends len first (cells ++ piece_cells len piece) (Some longer) results t
    way_grows piece longer t g is fills = record {
      done = way.done;
      before = way.before;
      finished = way.finished;
      filled = filled_more way.before s t opened piece longer way.filled g is.0 fills;
      parted = parted_grows len cells way.done opened piece longer g is way.parted;
    }

    -- the open stretch ends, and a piece starts anew
    pub way_anew : (piece : Piece) (u t : T) (more : List R) → Grown opened piece None
        → IsPiece len piece → Closes ends opened s results u more
        → fill u piece.row (record { start = piece.start; end = piece.end }) t
        → Underway fill ends len first (cells ++ piece_cells len piece) (Some piece) more t
    way_anew piece u t more g is closes fills = record {
      done = way.done ++ stretches_of opened;
      before = u;
      finished =
          closed first s u way.done opened results more way.before way.finished way.filled closes;
      filled = last_fill u u t piece.start piece.start piece.end
          (no_fill u u piece.start piece.start refl refl) is.0 fills;
      parted = parted_anew len cells way.done opened piece g is way.parted;
    }

    -- the open stretch ends, and nothing comes after it
    pub way_ends : (t : T) (more : List R) → Closes ends opened s results t more
        → (cut : List Stretch) × CutsCells len cells cut × Finished fill ends first cut more t
    way_ends t more closes = (
      way.done ++ stretches_of opened,
      parted_ends len cells way.done opened way.parted,
      closed first s t way.done opened results more way.before way.finished way.filled closes,
    )

  -- nothing so far
  pub way_begins : (len : ℕ) (first : T) (results : List R) → results ≡ []
      → Underway fill ends len first [] None results first
  way_begins len first results e = record {
    done = [];
    before = first;
    finished = subst (λ rs. Finished fill ends first [] rs first) (sym e) refl;
    filled = refl;
    parted = (refl, refl);
  }

-- where each stretch is its own result, the results cut the cells
module _ {T : Type 0} (fill : T → ℕ → Range ℕ → T → Type 0)
    (ends : T → Stretch → Stretch → T → Type 0)
    (itself : (s t : T) (x r : Stretch) → ends s x r t → r ≡ x) where
  all_itself : (s t : T) (xs rs : List Stretch) → Finished fill ends s xs rs t → rs ≡ xs
  all_itself s t [] [] e = refl
  all_itself s t [] (r ∷ rs) wrong = absurd wrong
  all_itself s t (x ∷ xs) [] wrong = absurd wrong
  all_itself s t (x ∷ xs) (r ∷ rs) (u, (v, fills, ends), rest) =
      let one = itself v u x r ends in
      let later = all_itself u t xs rs rest in cc

  pub itself_ends : (len : ℕ) (s t u : T) (cells : List ℕ) (opened : Option Piece)
      (found after : List Stretch) → Underway fill ends len s cells opened found t
      → Closes ends opened t found u after → CutsCells len cells after
  itself_ends len s t u cells opened found after way closes =
      let cut = way_ends fill ends len s cells opened found t way u after closes in
      rw (all_itself s u cut.0 after cut.2) cut.1
