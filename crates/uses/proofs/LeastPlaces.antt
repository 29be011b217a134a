-- The first place at which the places of a list have its least number.
use Rattle.std.proofs.Common.{◌≡◌, ℕ, ◌≤◌, List, [], ◌∷◌, ◌++◌, Bool, true, false, Option, Some, None, MatchOption, nat_lt, length, refl, sym, ◌∙◌, ap, cond, subst, arith}
use Rattle.std.specs.List.{All, range_with_len, slice_index}
use Rattle.std.specs.Prelude.{◌==◌}
use Rattle.std.proofs.lemmas.Bool.{cond_both, ltb-true, ltb-false}
use Rattle.std.proofs.lemmas.List.Elements.{All-append, All-cons, All-weaker}
use Rattle.std.proofs.lemmas.List.FromFn.{length-range_with_len}
use Rattle.parallel_bridge.proofs.Firsts.{all_in_range, first_in_range}
use Rattle.std.specs.Ordering.{is_lt, nat_cmp}
use Rattle.std.specs.declared.cmp.Ordering.{Ordering}
use Rattle.std.specs.declared.cmp.Ordering.TheVariants.{Equal, Greater, Less}
use Rattle.parallel_calls.specs.Extremes.{LeastOf}
use Rattle.parallel_calls.specs.Keys.{less_by}
use Rattle.uses.specs.LeastPlaces.{IsLeastPlace}

-- of two places, the one whose number is less
abbrev pub less_at : List ℕ → ℕ → ℕ → Bool
less_at numbers x y = nat_lt (slice_index numbers x) (slice_index numbers y)

module _ (numbers : List ℕ) (n place : ℕ) (before after : List ℕ) (long : n ≡ length numbers)
    (split : range_with_len 0 n ≡ before ++ (place ∷ after))
    (front : All (λ k. less_at numbers place k ≡ true) before)
    (back : All (λ k. less_at numbers k place ≡ false) after) where
  abbrev NoLess : ℕ → Type 0
  NoLess k = slice_index numbers place ≤ slice_index numbers k

  least_of_all : All NoLess (range_with_len 0 n)
  least_of_all =
      subst (All NoLess) (sym split) (All-append NoLess before (place ∷ after)
      (All-weaker (λ k. less_at numbers place k ≡ true) NoLess
      (λ k h. let less = ltb-true (slice_index numbers place) (slice_index numbers k) h in
      omega (arith, less)) before front)
      (All-cons NoLess place after (omega arith)
      (All-weaker (λ k. less_at numbers k place ≡ false) NoLess
      (λ k h. ltb-false (slice_index numbers k) (slice_index numbers place) h) after back)))

  first_least : IsLeastPlace numbers place
  first_least =
      let (is, inside, below) = first_in_range NoLess (λ k. less_at numbers place k ≡ true) n place
      (length before) (before, after, split, front, omega arith, refl) in (
        omega (arith, long, is, inside),
        λ k short. all_in_range NoLess n least_of_all k (omega (arith, long, short)),
        λ k short. ltb-true (slice_index numbers place) (slice_index numbers k)
            (below k (omega (arith, is, short))),
      )

-- over the places that came
pub least_place : (numbers places : List ℕ) (n : ℕ) (found : Option ℕ)
    → LeastOf (less_at numbers) places found → places ≡ range_with_len 0 n → n ≡ length numbers
    → MatchOption found (numbers ≡ []) (IsLeastPlace numbers)
least_place [] places n None h come long = refl
least_place (x ∷ xs) places n None h come long =
    let none : length (range_with_len 0 n) ≡ length places = ap length (sym come) in
    absurd (omega (arith, none, ap length h, length-range_with_len 0 n, long))
least_place numbers places n (Some place) (before, after, split, front, back) come long =
    first_least numbers n place before after long (sym come ∙ split) front back

-- `cmp` of numbers says `Less` where they are
cmp_is_less : (x y : ℕ) → is_lt (nat_cmp x y) ≡ nat_lt x y
cmp_is_less x y =
    let P : Ordering → Type 0 = λ o. is_lt o ≡ nat_lt x y in
    cond_both (nat_lt x y) Less (cond (x == y) Equal Greater) P (λ less. sym less)
    (λ more. cond_both (x == y) Equal Greater P (λ _. sym more) (λ _. sym more))

-- the same by keys
pub least_place_by_key : (numbers places : List ℕ) (n : ℕ) (found : Option ℕ)
    → LeastOf (less_by nat_cmp (slice_index numbers)) places found → places ≡ range_with_len 0 n
    → n ≡ length numbers → MatchOption found (numbers ≡ []) (IsLeastPlace numbers)
least_place_by_key numbers places n found h come long =
    let same : less_by nat_cmp (slice_index numbers) ≡ less_at numbers =
    λ i x y. cmp_is_less (slice_index numbers x) (slice_index numbers y) i in
    least_place numbers places n found (subst (λ lt. LeastOf lt places found) same h) come long
