-- Scans by an operation that doesn't mind where brackets stand.
use Rattle.std.proofs.Common.{◌≡◌, ℕ, zero, suc, ◌+◌, ◌<◌, ◌∙◌, List, [], ◌∷◌, length, get_or, take, refl, sym, ap, subst, add-one, arith, fold, map, ◌++◌}
use Rattle.std.proofs.lemmas.List.{ext_get_or, map-id, nil_from_length, take_at}
use Rattle.std.specs.List.{scan}
use Rattle.parallel_calls.specs.Reductions.{IsAssociative, Reduces}
use Rattle.parallel_calls.specs.Scans.{IsExclusiveScan, IsInclusiveScan, exclusive_scan_of, inclusive_scan_of}
use Rattle.parallel_calls.proofs.Reductions.{reduced_plain}

module _ {X : Type 0} (g : X → X → X) where
  inclusive_at : (a : X) (xs : List X) (k : ℕ) (d : X) → k < suc (length xs)
      → fold g a (take k xs) ≡ get_or (a ∷ scan g g a xs) k d
  inclusive_at a xs zero d l = refl
  inclusive_at a [] (suc k) d l = absurd (omega arith)
  inclusive_at a (x ∷ xs) (suc k) d l = inclusive_at (g a x) xs k d (omega arith)

  exclusive_at : (a : X) (xs : List X) (k : ℕ) (d : X) → k < length xs
      → fold g a (take k xs) ≡ get_or (exclusive_scan_of g a xs) k d
  exclusive_at a [] k d l = absurd (omega arith)
  exclusive_at a (x ∷ xs) zero d l = refl
  exclusive_at a (x ∷ xs) (suc k) d l = exclusive_at (g a x) xs k d (omega arith)

  scan_length : (out : X → X → X) (a : X) (xs : List X) → length (scan g out a xs) ≡ length xs
  scan_length out a [] = refl
  scan_length out a (x ∷ xs) = ap suc (scan_length out (g a x) xs)

  module _ (op : X → X → X → Type 0) (laws : IsAssociative op g) where
    -- a reduction of some items is their fold from the left
    folded : (a : X) (xs : List X) (r : X) → Reduces op (a ∷ xs) r → r ≡ fold g a xs
    folded a xs r h = let same = reduced_plain op g laws h in cc

    pub plain_exclusive : (start : X) (xs ys : List X) → IsExclusiveScan op start xs ys
        → ys ≡ exclusive_scan_of g start xs
    plain_exclusive start xs ys h = ext_get_or start ys (exclusive_scan_of g start xs)
        (h.0 ∙ sym (scan_length (λ before x. before) start xs))
        (λ k l. let inside : k < length xs = omega (arith, h.0) in
        folded start (take k xs) (get_or ys k start) (h.1 k start inside)
        ∙ exclusive_at start xs k start inside)

    pub plain_inclusive : (xs ys : List X) → IsInclusiveScan op xs ys
        → ys ≡ inclusive_scan_of g xs
    plain_inclusive [] ys h = nil_from_length ys h.0
    plain_inclusive (x ∷ xs) ys h = ext_get_or x ys (x ∷ scan g g x xs)
        (h.0 ∙ ap suc (sym (scan_length g x xs)))
        (λ k l. let inside : k < suc (length xs) = omega (arith, h.0) in
        let take_in : take (k + 1) (x ∷ xs) ≡ x ∷ take k xs =
        ap (λ n. take n (x ∷ xs)) (add-one k) in
        folded x (take k xs) (get_or ys k x)
        (subst (λ zs. Reduces op zs (get_or ys k x)) take_in (h.1 k x inside))
        ∙ inclusive_at x xs k x inside)

-- items that were gathered, and then scanned where they lie
pub gathered_scan : {X : Type 0} (scan_of : List X → List X) (xs items scanned rest : List X)
    (len : ℕ) → items ≡ map (λ x. x) xs → length scanned ≡ len → scanned ≡ scan_of items
    → take len (scanned ++ rest) ≡ scan_of xs
gathered_scan scan_of xs items scanned rest len is long plain =
    take_at scanned rest len long ∙ plain ∙ ap scan_of (is ∙ map-id xs)
