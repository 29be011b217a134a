-- A list whose parts are filled, range by range, with the results of a function.
use Rattle.std.proofs.Common.{◌≡◌, ℕ, ◌+◌, ◌-◌, ◌<◌, ◌≤◌, ◌∙◌, List, [], ◌∷◌, ◌++◌, All, MutBor, length, map, drop, get_or, slice_range, sym, ap, subst, arith}
use Rattle.std.proofs.lemmas.List.{drop_all, length-take, length-drop, map-append}
use Rattle.std.proofs.lemmas.List.Elements.{All-nil, All-cons, All-head, All-tail}
use Rattle.std.proofs.lemmas.List.Folds.{drop_split}
use Rattle.std.specs.Fork.{ChangesAt}
use Rattle.std.specs.declared.ops.Range.{Range}
use denote.Param.Members.{Shared}
use Rattle.parallel_shares.specs.Cut.{CutsFrom}
use Rattle.parallel_shares.proofs.Cuts.{CutsFrom-ordered}
use Rattle.commonware_parallel.specs.InPlace.{ChangesParts}

-- each range of a cut lies in what is cut
in_cut : (from to : ℕ) (rs : List (Range ℕ)) → CutsFrom from rs to
    → All (λ r. (r.start ≤ r.end) × (r.end ≤ to)) rs
in_cut from to [] cuts = All-nil (λ r. (r.start ≤ r.end) × (r.end ≤ to))
in_cut from to (r ∷ rs) cuts =
    All-cons (λ s. (s.start ≤ s.end) × (s.end ≤ to)) r rs
    (cuts.1, CutsFrom-ordered r.end to rs cuts.2) (in_cut r.end to rs cuts.2)

-- so a range's part of a list lies in the list
pub part_within : {Y : Type 0} (rs : List (Range ℕ)) (xs : List Y) → CutsFrom 0 rs (length xs)
    → (n : ℕ) (d : Range ℕ) → n < length rs → (part : List Y)
    → part ≡ slice_range xs (get_or rs n d).start (get_or rs n d).end
    → (get_or rs n d).start + length part ≤ length xs
part_within rs xs cuts n d inside part is =
    let r = get_or rs n d in
    let lies = in_cut 0 (length xs) rs cuts n d inside in
    let long = ap (λ ys. length ys) is in
    omega (
      arith,
      lies.0,
      lies.1,
      long,
      length-take (r.end - r.start) (drop r.start xs),
      length-drop r.start xs,
    )

module _ {F X Y : Type 0}
    (g : Shared F (ℕ × (MutBor (List Y) × Unit {0})) (Unit {0} × (MutBor (List Y) × Unit {0})))
    (op : F) (f : X → Y) (xs : List X) (old new : List Y) (same : length xs ≡ length old)
    (kept : length new ≡ length old)
    (fills : (start : ℕ) (p q : MutBor (List Y)) → g.post op (start, (p, tt)) (tt, (q, tt))
    → q.now ≡ map f (slice_range xs start (start + length p.now))) where
  -- one part
  one_filled : (start end : ℕ) → start ≤ end → end ≤ length old
      → ChangesAt g op start (slice_range old start end) (slice_range new start end)
      → slice_range new start end ≡ map f (slice_range xs start end)
  one_filled start end up within it =
      let ends : start + length it.argument.now ≡ end =
      ap (λ part. start + length part) it.argument_is
      ∙ omega (
        arith,
        up,
        within,
        length-take (end - start) (drop start old),
        length-drop start old,
      ) in
      sym it.left ∙ (fills start it.argument it.after_call it.call
      ∙ ap (λ k. map f (slice_range xs start k)) ends)

  -- the parts from one place on
  rest_filled : (from : ℕ) (rs : List (Range ℕ)) → CutsFrom from rs (length old)
      → All (λ r. ChangesAt g op r.start (slice_range old r.start r.end)
      (slice_range new r.start r.end)) rs → drop from new ≡ map f (drop from xs)
  rest_filled from [] cuts each =
      drop_all from new (omega (arith, cuts, kept))
      ∙ sym (ap (map f) (drop_all from xs (omega (arith, cuts, same))))
  rest_filled from (r ∷ rs) cuts each =
      let P : Range ℕ → Type 0 = λ s. ChangesAt g op s.start (slice_range old s.start s.end)
      (slice_range new s.start s.end) in
      let ends = CutsFrom-ordered r.end (length old) rs cuts.2 in
      let first = one_filled r.start r.end cuts.1 ends (All-head P r rs each) in
      let others = rest_filled r.end rs cuts.2 (All-tail P r rs each) in
      subst (λ k. drop k new ≡ map f (drop k xs)) cuts.0
      (drop_split new r.start r.end cuts.1
      ∙ (ap (λ part. part ++ drop r.end new) first
      ∙ (ap (λ rest. map f (slice_range xs r.start r.end) ++ rest) others
      ∙ (sym (map-append f (slice_range xs r.start r.end) (drop r.end xs))
      ∙ ap (map f) (sym (drop_split xs r.start r.end cuts.1))))))

-- A list is a map of another one, if the ranges cut it, and each call of a closure leaves of a part
-- the map of the other list's part.
pub filled_by_parts : {F X Y : Type 0}
    {g : Shared F (ℕ × (MutBor (List Y) × Unit {0})) (Unit {0} × (MutBor (List Y) × Unit {0}))}
    {op : F} (f : X → Y) (xs : List X) (old new : List Y) (rs : List (Range ℕ))
    → length xs ≡ length old → CutsFrom 0 rs (length old) → ChangesParts g op rs old new
    → ((start : ℕ) (p q : MutBor (List Y)) → g.post op (start, (p, tt)) (tt, (q, tt))
    → q.now ≡ map f (slice_range xs start (start + length p.now))) → new ≡ map f xs
filled_by_parts {g = g} {op = op} f xs old new rs same cuts changed fills =
    rest_filled g op f xs old new same changed.0 fills 0 rs cuts changed.1
