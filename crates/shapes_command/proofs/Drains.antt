-- What is known of the seats and lists that come back.
use Rattle.shapes_command.proofs.Common.{◌≡◌, ℕ, zero, suc, ◌+◌, ◌-◌, ◌<◌, inl, inr, List, [], ◌∷◌, ◌++◌, map, length, get_or, true, None, Ok, Result, refl, sym, ap, ◌∙◌, arith, range_with_len}
use Rattle.shapes_command.proofs.Common.{IsPermutation, IsNonDecreasing, cases_lt, length-map, map-append, inside, in_ranges, same_number, total, times, plan_of, index_of, claims_of, AreSeatsOf}
use Rattle.shapes_command.proofs.Common.{AllDone, EachCellOnce, IsSeatOf, has_emptied, transit_of, inside_within, inside_after, total_append, times_range, in_ranges_append, seat_of, listed}
use Rattle.shapes_command.proofs.Common.{HasEachOnce, AreDrained}
use Rattle.std.proofs.lemmas.Bool.Decides.{nat_tests}
use Rattle.std.specs.declared.ops.Range.{Range}
use Rattle.parallel_shares.specs.declared.shares.Shares.{Shares}
use Rattle.shapes_command.specs.declared.drain.Drained.{Drained}
use Rattle.shapes_command.proofs.Ascending.{ascending, times_permuted}

-- ---- lists that are mapped

-- what holds of what a function gives at each place holds of the mapped list
each_mapped : {A B : Type 0} (P : ℕ → B → Type 0) (f : A → B) (xs : List A)
    → ((i : ℕ) (d : A) → i < length xs → P i (f (get_or xs i d))) → (i : ℕ) (e : B)
    → i < length (map f xs) → P i (get_or (map f xs) i e)
each_mapped P f [] each i e h = absurd (omega (arith, h))
each_mapped P f (x ∷ xs) each zero e h = each 0 x (omega arith)
each_mapped P f (x ∷ xs) each (suc i) e h =
    each_mapped (λ j. P (suc j)) f xs (λ j d l. each (suc j) d (omega arith)) i e (omega arith)

total_mapped : {A B : Type 0} (f : A → B) (g : B → ℕ) (h : A → ℕ) (xs : List A)
    → ((i : ℕ) (d : A) → i < length xs → g (f (get_or xs i d)) ≡ h (get_or xs i d))
    → total g (map f xs) ≡ total h xs
total_mapped f g h [] same = refl
total_mapped f g h (x ∷ xs) same =
    omega (
      arith,
      same 0 x (omega arith),
      total_mapped f g h xs (λ i d l. same (suc i) d (omega arith)),
    )

mapped_at : {A B : Type 0} (f : A → B) (xs : List A) (i : ℕ) (d : A)
    → get_or (map f xs) i (f d) ≡ f (get_or xs i d)
mapped_at f [] i d = refl
mapped_at f (x ∷ xs) zero d = refl
mapped_at f (x ∷ xs) (suc i) d = mapped_at f xs i d

length_mapped : {A B : Type 0} (f : A → B) (xs : List A) → length (map f xs) ≡ length xs
length_mapped f xs = length-map xs f

-- results that are all ok
module _ {A E : Type 0} (xs : List A) (results : List (Result A E))
    (same : map Ok xs ≡ results) where
  pub oks_count : length xs ≡ length results
  oks_count = sym (length_mapped Ok xs) ∙ ap length same

  pub oks_at : (i : ℕ) (d : A) → get_or results i (Ok d) ≡ Ok (get_or xs i d)
  oks_at i d = ap (λ rs. get_or rs i (Ok d)) (sym same) ∙ mapped_at Ok xs i d

pub pushed_map : {A B : Type 0} (f : A → B) (xs : List A) (x : A)
    → map f (xs ++ x ∷ []) ≡ map f xs ++ f x ∷ []
pushed_map f xs x = map-append f xs (x ∷ [])

-- ---- ranges that are pushed

-- a range counts the numbers from its start, as many as it has
same_range : (c a b : ℕ) → inside c a (a + (b - a)) ≡ inside c a b
unfolding inside
same_range c a b = grind (arith, nat_tests)

-- one more range is pushed
pub pushed : (c : ℕ) (old new first : List ℕ) (rs : List (Range ℕ)) (r : Range ℕ)
    → times c old ≡ times c first + in_ranges c rs
    → new ≡ old ++ range_with_len r.start (r.end - r.start)
    → times c new ≡ times c first + in_ranges c (rs ++ r ∷ [])
pushed c old new first rs r before_it grown =
    omega (
      arith,
      ap (times c) grown,
      total_append (same_number c) old
          (range_with_len r.start (r.end - r.start)),
      times_range c r.start (r.end - r.start),
      same_range c r.start r.end,
      in_ranges_append c rs (r ∷ []),
      before_it,
    )

-- ---- seats that came back

module _ (shares : Shares) (drained : List Drained) (are : AreDrained shares drained) where
  pub seats_back : AreSeatsOf shares (map seat_of drained)
  seats_back = record {
    count = length_mapped seat_of drained ∙ are.count;
    each =
        each_mapped (λ i s. IsSeatOf shares s) seat_of drained (λ i d h. (are.each i d h).belongs);
    order = each_mapped (λ i s. index_of s ≡ i) seat_of drained (λ i d h. (are.each i d h).same);
  }

  pub all_done : AllDone (map seat_of drained)
  all_done i d h =
      each_mapped (λ j s. (has_emptied s ≡ true) × (transit_of s ≡ None)) seat_of drained
      (λ j e l. ((are.each j e l).emptied, (are.each j e l).transit)) i d h

  -- so the lists have each cell once
  pub lists_have_each : (cells : List ℕ) → EachCellOnce (plan_of shares) (map seat_of drained)
      → ((c : ℕ) → times c cells ≡ total (listed c) drained)
      → HasEachOnce (plan_of shares).cells cells
  lists_have_each cells once lists c =
      let n = (plan_of shares).cells in
      let claims = total_mapped seat_of (λ s. in_ranges c (claims_of s)) (listed c) drained
      (λ i d h. ap (in_ranges c) (are.each i d h).claims) in
      elim (cases_lt c n) as (λ _. times c cells ≡ inside c 0 n) [
        | inl l ↦ omega (arith, lists c, claims, once.once c l, inside_within c 0 n (omega arith) l)
        | inr m ↦ omega (arith, lists c, claims, once.no_more c m, inside_after c 0 n m)
      ]

-- numbers that are each there once are, in order, all of them
pub in_order : (n rows : ℕ) (cells ordered : List ℕ) → n ≡ rows → HasEachOnce n cells
    → IsPermutation cells ordered → IsNonDecreasing ordered → ordered ≡ range_with_len 0 rows
in_order n rows cells ordered same once permuted order =
    let from_none : n ≡ 0 + rows = omega (arith, same) in
    ascending 0 rows ordered order (λ c. times_permuted c cells ordered permuted ∙ once c
    ∙ ap (inside c 0) from_none)
