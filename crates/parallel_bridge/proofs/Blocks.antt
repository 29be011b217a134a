-- A vector's block is its slots and the right to free it, and back. Assumes `Logic`.
use Rattle.parallel_bridge.proofs.Walks.{◌≡◌, refl, sym, ap, ◌∙◌, ℕ, suc, ◌+◌, ◌-◌, ◌*◌, ◌≤◌, arith, List, [], ◌∷◌, ◌++◌, map, T, length, replicate, length-append, length-replicate, Ura, full_share}
use Rattle.parallel_bridge.proofs.Walks.{ty_array, bare, ent, sep, Fml, ftrue, froom, Logic, sem, ‵, ◌⊛◌, given, ◌$◌, ◌∵◌, !, qed, move, keep, use1, use2, split, learn, rewrite, fsplit, fjoin, done}
use Rattle.parallel_bridge.proofs.Walks.{part_at, row, block_ptr, nothing, Option, Some, None, token, owns_if, as_raw, as_written, slots}
use mathlib.Core.Bool.{Bool, true, false, not}
use denote.Array.{Array}
use Rattle.parallel_bridge.proofs.Common.{length-map}
use Rattle.core.specs.Allocator.{block_with_items}
use Rattle.core.proofs.mem.Param as core
use Rattle.std_alloc.proofs.VecSteps.El.{El, el_x, elτ, R, sz, Hd}
use Rattle.std_alloc.proofs.VecSteps.Rows.{apart, whole}
use Rattle.parallel_bridge.proofs.RowMemory.{cut, glue, of_items, to_items, of_room, to_room}

module _ {X : Type 0} where
  abbrev vacant : Option X
  vacant = None

  -- the items, and empty slots up to the c-th
  abbrev pub stored : ℕ → ℕ → List X → List (Option X)
  stored n c xs = map Some xs ++ replicate (c - n) None

  stored_long : (n c : ℕ) (xs : List X) → length (stored n c xs) ≡ length xs + (c - n)
  stored_long n c xs =
      let items : length (map Some xs) ≡ length xs = length-map xs Some in
      let behind = length-replicate (c - n) vacant in
      omega (arith, length-append (map Some xs) (replicate (c - n) None), items, behind)

  pub stored_length : (n c : ℕ) (xs : List X) → n ≡ length xs → n ≤ c → length (stored n c xs) ≡ c
  stored_length n c xs long le = omega (arith, stored_long n c xs)

  pub stored_within : (n c : ℕ) (xs : List X) → n ≡ length xs → length (stored n c xs) ≡ c → n ≤ c
  stored_within n c xs long all = omega (arith, stored_long n c xs)

  stored_none : (n c : ℕ) (xs : List X) → n ≡ length xs → n ≤ c → c ≡ 0 → stored n c xs ≡ []
  stored_none n c [] long le none =
      let empty : c - n ≡ 0 = omega arith in
      ap (λ (k : ℕ). replicate k None) empty
  stored_none n c (x ∷ xs) long le none =
      let more : n ≡ suc (length xs) = long in
      absurd (omega arith)

-- the same element type, without its allocator
abbrev pub plainly : El → core.El
plainly E = record { row = E.row; laws = E.laws }

module _ (E : El) {M : Type 1} {𝓤 : Ura M} (𝓛 : Logic 𝓤) (a : Hd E) (b o n c : ℕ)
    (xs : List (el_x E)) where
  abbrev Block : Bool → Fml
  Block y = owns_if y (block_with_items (token E.al a) (R E) (block_ptr b o) n c xs)

  abbrev Right : Bool → Fml
  Right y = owns_if y (token E.al a (bare (ty_array (elτ E) c)) (block_ptr b o))

  abbrev Whole : Fml
  Whole = slots (R E) b o (stored n c xs)

  behind : n ≡ length xs → o + n * sz E ≡ length (map Some xs) * sz E + o
  behind long =
      let items : length (map Some xs) ≡ length xs = length-map xs Some in
      let same : n ≡ length (map Some xs) = omega arith in
      let moved : o + n * sz E ≡ n * sz E + o = omega arith in
      moved ∙ ap (λ (k : ℕ). k * sz E + o) same

  pub block_out : (y : Bool) → (T (not y) → c ≡ 0) → n ≤ c → n ≡ length xs
      → ent 𝓤 (sem 𝓛 (Block y)) (sep 𝓤 (sem 𝓛 Whole) (sem 𝓛 (Right y)))
  block_out true none le long =
      qed 𝓛 (‵ (Block true) ∷ []) ∵ fsplit ! $ move ! (1 ∷ []) $ fsplit ! $
      as_written ! (ty_array (elτ E) (c - n)) b (o + n * sz E) $ move ! (2 ∷ 0 ∷ 1 ∷ []) $
      -- [the items; the room after them; the right to free]
      use1 𝓛 (given (length xs ≡ n) (‵ (row (R E) full_share xs b o)))
      (apart E 𝓛 full_share n xs b o) $ learn ! (λ same.
      use1 𝓛 (‵ (slots (R E) b o (map Some xs))) (of_items (plainly E) 𝓛 b xs o) $ move ! (1 ∷ []) $
      use1 𝓛 (‵ (slots (R E) b (o + n * sz E) (replicate (c - n) None)))
      (of_room (plainly E) 𝓛 b (c - n) (o + n * sz E)) $ move ! (1 ∷ 0 ∷ []) $
      use2 𝓛 (‵ Whole) (glue (plainly E) 𝓛 b (map Some xs) (replicate (c - n) None) o (o + n * sz E)
      (behind long)) $ done !)
  block_out false none le long = qed 𝓛 (‵ ftrue ∷ []) ∵ nothing ! $
      rewrite ! 0 (λ (l : List (Option (el_x E))). ‵ (slots (R E) b o l))
      (sym (stored_none n c xs long le (none tt))) refl $ done !

  pub block_in : (y : Bool) → n ≡ length xs
      → ent 𝓤 (sep 𝓤 (sem 𝓛 Whole) (sem 𝓛 (Right y))) (sem 𝓛 (Block y))
  block_in true long = qed 𝓛 (‵ Whole ∷ ‵ (Right true) ∷ []) ∵
      use1 𝓛 (‵ (slots (R E) b o (map Some xs))
      ⊛ ‵ (slots (R E) b (o + n * sz E) (replicate (c - n) None)))
      (cut (plainly E) 𝓛 b (map Some xs) (replicate (c - n) None) o (o + n * sz E)
      (behind long)) $ split ! $
      use1 𝓛 (‵ (row (R E) full_share xs b o)) (to_items (plainly E) 𝓛 b xs o) $
      use1 𝓛 (‵ (part_at (Array (R E) n) full_share xs b o))
      (whole E 𝓛 full_share n xs b o (sym long)) $ move ! (1 ∷ []) $
      use1 𝓛 (‵ (froom (ty_array (elτ E) (c - n)) b (o + n * sz E)))
      (to_room (plainly E) 𝓛 b (c - n) (o + n * sz E)) $
      as_raw ! (ty_array (elτ E) (c - n)) b (o + n * sz E) $
      -- [the room; the items; the right to free]
      move ! (0 ∷ 2 ∷ []) $ fjoin ! $ move ! (1 ∷ 0 ∷ []) $ fjoin ! $ done !
  block_in false long = qed 𝓛 (‵ Whole ∷ ‵ ftrue ∷ []) ∵ keep ! (1 ∷ []) $ done !
