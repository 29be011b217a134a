-- What the calls whose closures may fail, and partitions, say of checks.
use Rattle.std.proofs.Common.{◌≡◌, ℕ, ◌+◌, ◌-◌, ◌<◌, ◌≤◌, ◌%◌, ◌^◌, List, [], ◌∷◌, ◌++◌, Option, Some, None, Result, Ok, Err, Bool, true, false, not, length}
use Rattle.std.proofs.Common.{refl, sym, ◌∙◌, ap, subst, arith, sum, inl, inr}
use Rattle.std.specs.Prelude.{MatchResult, IfOk, ⊤, min}
use Rattle.std.specs.Borrow.{Bor}
use Rattle.std.proofs.Common.{Vec, Global}
use Rattle.std.specs.List.{All, AllZip, HoldsAt, filter, range_with_len, zip}
use Rattle.std.proofs.lemmas.List.Elements.{All-nil, All-cons, All-append}
use Rattle.std.proofs.lemmas.List.Sums.{sum_by-cons, sum_by-append}
use Rattle.std.proofs.Common.{append_assoc}
use Rattle.std.proofs.lemmas.Bool.{cond-true, cond-false}
use Rattle.parallel_fault.specs.declared.fault.Trouble.{Trouble}
use Rattle.parallel_fault.specs.declared.fault.Trouble.TheVariants.{Closure}
use Rattle.parallel_fault.specs.declared.fault.Trouble.TheVariants.{Fault as OfFault}
use Rattle.parallel_fault.specs.Trouble.{IfClosure}
use Rattle.parallel_bridge.specs.Outcomes.{UnlessRefused, listed}
use Rattle.parallel_bridge.specs.Parts.{PartitionOf, values_of, keys_of}
use Rattle.parallel_bridge.specs.Tries.{TryMapOf, TryBracketing, TryChain, TryBrackets, of_try_segment, of_values, of_left_error, of_right_error, TryFoldSegment}
use Rattle.parallel_bridge.proofs.OverLists.{fact_of_list}
use Rattle.parallel_bridge.proofs.FirstFailing.{FailsFirst, first_failing}
use Rattle.parallel_bridge.specs.Zips.{PairsOf}
use Rattle.parallel_bridge.specs.declared.producer.Copies.{Copies}
use Rattle.parallel_bridge.specs.declared.zipped.Zipped.{Zipped}
use Rattle.std.proofs.lemmas.Slice.Zip.{length-zip}
use Rattle.parallel_bridge.proofs.Firsts.{first_of_numbered}
use Rattle.parallel_bridge.proofs.OverViews.{zip_of_lists}
use Rattle.batch_verifier.specs.Verdicts.{HasItsDigest, IsFirstFailing, IsFirstMismatch, IsFirstOver, IsSortedOut, Judges, JudgesDigest, AddsWithin}

module _ {X : Type 0} (verdict : X → Bool → Type 0) (allowed : X → (X × Option X) → Type 0)
    (calls : (x : X) (p : X × Option X) → allowed x p → IsSortedOut verdict x p) where
  -- the values pass
  pub values_pass : (xs : List X) (ps : List (X × Option X)) → AllZip allowed xs ps
      → All (λ x. verdict x true) (values_of ps)
  values_pass [] [] h = All-nil (λ x. verdict x true)
  values_pass [] (p ∷ ps) h = absurd h
  values_pass (x ∷ xs) [] h = absurd h
  values_pass (x ∷ xs) ((k, Some u) ∷ ps) h =
      let one = calls x (k, Some u) h.0 in
      All-cons (λ y. verdict y true) u (values_of ps)
      (subst (λ v. verdict v true) (sym one.1) one.2) (values_pass xs ps h.1)
  values_pass (x ∷ xs) ((k, None) ∷ ps) h = values_pass xs ps h.1

  -- the keys fail
  pub keys_fail : (xs : List X) (ps : List (X × Option X)) → AllZip allowed xs ps
      → All (λ x. verdict x false) (keys_of ps)
  keys_fail [] [] h = All-nil (λ x. verdict x false)
  keys_fail [] (p ∷ ps) h = absurd h
  keys_fail (x ∷ xs) [] h = absurd h
  keys_fail (x ∷ xs) ((k, Some u) ∷ ps) h = keys_fail xs ps h.1
  keys_fail (x ∷ xs) ((k, None) ∷ ps) h =
      let one = calls x (k, None) h.0 in
      All-cons (λ y. verdict y false) k (keys_of ps)
      (subst (λ v. verdict v false) (sym one.0) one.1) (keys_fail xs ps h.1)

  -- each item is among the values or the keys
  pub parts_count : (xs : List X) (ps : List (X × Option X)) → AllZip allowed xs ps
      → length (values_of ps) + length (keys_of ps) ≡ length xs
  parts_count [] [] h = refl
  parts_count [] (p ∷ ps) h = absurd h
  parts_count (x ∷ xs) [] h = absurd h
  parts_count (x ∷ xs) ((k, Some u) ∷ ps) h =
      let rest = parts_count xs ps h.1 in
      omega (arith, rest)
  parts_count (x ∷ xs) ((k, None) ∷ ps) h = let rest = parts_count xs ps h.1 in omega (arith, rest)

  -- the values are the items that pass a test by which the verdicts go
  pub values_filtered : (passes : X → Bool) → ((x : X) (b : Bool) → verdict x b → b ≡ passes x)
      → (xs : List X) (ps : List (X × Option X)) → AllZip allowed xs ps
      → values_of ps ≡ filter passes xs
  values_filtered passes goes [] [] h = refl
  values_filtered passes goes [] (p ∷ ps) h = absurd h
  values_filtered passes goes (x ∷ xs) [] h = absurd h
  values_filtered passes goes (x ∷ xs) ((k, Some u) ∷ ps) h =
      let one = calls x (k, Some u) h.0 in
      let rest = values_filtered passes goes xs ps h.1 in
      ap (λ v. v ∷ values_of ps) one.1 ∙ ap (λ l. x ∷ l) rest
      ∙ sym (cond-true (passes x) (x ∷ filter passes xs) (filter passes xs)
      (sym (goes x true one.2)))
  values_filtered passes goes (x ∷ xs) ((k, None) ∷ ps) h =
      let one = calls x (k, None) h.0 in
      values_filtered passes goes xs ps h.1
      ∙ sym (cond-false (passes x) (x ∷ filter passes xs) (filter passes xs)
      (sym (goes x false one.1)))

  -- the keys are the others
  pub keys_filtered : (passes : X → Bool) → ((x : X) (b : Bool) → verdict x b → b ≡ passes x)
      → (xs : List X) (ps : List (X × Option X)) → AllZip allowed xs ps
      → keys_of ps ≡ filter (λ x. not (passes x)) xs
  keys_filtered passes goes [] [] h = refl
  keys_filtered passes goes [] (p ∷ ps) h = absurd h
  keys_filtered passes goes (x ∷ xs) [] h = absurd h
  keys_filtered passes goes (x ∷ xs) ((k, Some u) ∷ ps) h =
      let one = calls x (k, Some u) h.0 in
      let others = filter (λ y. not (passes y)) xs in
      keys_filtered passes goes xs ps h.1
      ∙ sym (cond-false (not (passes x)) (x ∷ others) others (ap not (sym (goes x true one.2))))
  keys_filtered passes goes (x ∷ xs) ((k, None) ∷ ps) h =
      let one = calls x (k, None) h.0 in
      let others = filter (λ y. not (passes y)) xs in
      ap (λ v. v ∷ keys_of ps) one.0 ∙ ap (λ l. x ∷ l) (keys_filtered passes goes xs ps h.1)
      ∙ sym (cond-true (not (passes x)) (x ∷ others) others (ap not (sym (goes x false one.1))))

-- the parts of a partition of a list
pub parts_of_list : {X K U E : Type 0} (all : List X) (allowed : X → (K × Option U) → Type 0)
    (result : Result (Vec U Global × Vec K Global) E)
    → IfOk result (λ parts. (xs : List X) × (xs ≡ all)
    × PartitionOf allowed xs parts.0.items parts.1.items)
    → IfOk result (λ parts. PartitionOf allowed all parts.0.items parts.1.items)
parts_of_list all allowed result gave =
    fact_of_list all (λ xs parts. PartitionOf allowed xs parts.0.items parts.1.items) result gave

-- what a checked sum returns for a list: its sum, or the first number over the limit
abbrev pub Checked : ℕ → ℕ → List ℕ → Result ℕ ℕ → Type 0
Checked limit start xs out = MatchResult out
    (λ r. All (λ x. x ≤ limit) xs × (r ≡ (start + sum xs) % 2 ^ 64)) (IsFirstOver limit xs)

module _ (limit : ℕ) (identity : ℕ → Type 0) (step : ℕ → ℕ → Result ℕ ℕ → Type 0)
    (reduce : ℕ → ℕ → ℕ → Type 0) (zeros : (e : ℕ) → identity e → e ≡ 0)
    (adds : (a x b : ℕ) → step a x (Ok b) → (b ≡ (a + x) % 2 ^ 64) × (x ≤ limit))
    (stops : (a x e : ℕ) → step a x (Err e) → (e ≡ x) × (limit < x))
    (joins : (a b r : ℕ) → reduce a b r → r ≡ (a + b) % 2 ^ 64) where
  -- one number more in front
  behind_one : (a b x : ℕ) (xs : List ℕ) (out : Result ℕ ℕ) → b ≡ (a + x) % 2 ^ 64 → x ≤ limit
      → Checked limit b xs out → Checked limit a (x ∷ xs) out
  behind_one a b x xs (Ok r) same within h = (
    All-cons (λ y. y ≤ limit) x xs within h.0,
    omega (arith, same, h.1, sum_by-cons (λ (n : ℕ). n) x xs),
  )
  behind_one a b x xs (Err e) same within (before, after, split, all, over) = (
    x ∷ before,
    after,
    ap (λ l. x ∷ l) split,
    All-cons (λ y. y ≤ limit) x before within all,
    over,
  )

  checked_chain : (a : ℕ) (xs : List ℕ) (out : Result ℕ ℕ) → a < 2 ^ 64 → TryChain step a xs out
      → Checked limit a xs out
  checked_chain a [] out small same =
      subst (Checked limit a []) (sym same) (All-nil (λ y. y ≤ limit), omega (arith, small))
  checked_chain a (x ∷ xs) out small (inl (b, went, rest)) =
      let one = adds a x b went in
      behind_one a b x xs out one.0 one.1 (checked_chain b xs out (omega (arith, one.0)) rest)
  checked_chain a (x ∷ xs) out small (inr (e, failed, same)) =
      let one = stops a x e failed in
      subst (Checked limit a (x ∷ xs)) (sym same) (
        [],
        xs,
        ap (λ y. y ∷ xs) (sym one.0),
        All-nil (λ y. y ≤ limit),
        subst (λ y. limit < y) (sym one.0) one.1,
      )

  -- two parts whose sums are reduced
  both_within : (xs ys : List ℕ) (p q r : ℕ) → Checked limit 0 xs (Ok p) → Checked limit 0 ys (Ok q)
      → reduce p q r → Checked limit 0 (xs ++ ys) (Ok r)
  both_within xs ys p q r left right reduced =
      let joined = joins p q r reduced in
      let whole : sum (xs ++ ys) ≡ sum xs + sum ys = sum_by-append (λ (n : ℕ). n) xs ys in (
        All-append (λ x. x ≤ limit) xs ys left.0 right.0,
        omega (arith, joined, left.1, right.1, whole),
      )

  -- a number over the limit in the left part is the first one of the whole
  left_over : (xs ys : List ℕ) (e : ℕ) → IsFirstOver limit xs e → IsFirstOver limit (xs ++ ys) e
  left_over xs ys e (before, after, split, all, over) =
      (before, after ++ ys, ap (λ l. l ++ ys) split ∙ append_assoc before (e ∷ after) ys, all, over)

  -- so is the first one of the right part, where the left one has none
  right_over : (xs ys : List ℕ) (e : ℕ) → All (λ x. x ≤ limit) xs → IsFirstOver limit ys e
      → IsFirstOver limit (xs ++ ys) e
  right_over xs ys e within (before, after, split, all, over) = (
    xs ++ before,
    after,
    ap (λ l. xs ++ l) split ∙ sym (append_assoc xs before (e ∷ after)),
    All-append (λ x. x ≤ limit) xs before within all,
    over,
  )

  -- however the list is cut, the outcome is that of the whole list
  checked_brackets : {xs : List ℕ} {out : Result ℕ ℕ}
      → TryBrackets (TryFoldSegment identity step) reduce xs out → Checked limit 0 xs out
  checked_brackets {xs} {out} (of_try_segment (a, begun, chain)) =
      let zero_first : a ≡ 0 = zeros a begun in
      checked_chain 0 xs out (omega arith) (subst (λ v. TryChain step v xs out) zero_first chain)
  checked_brackets (of_values {xs = xs} {ys = ys} {p = p} {q = q} {r = r} split left right
      reduced) =
      subst (λ l. Checked limit 0 l (Ok r)) (sym split)
      (both_within xs ys p q r (checked_brackets left) (checked_brackets right) reduced)
  checked_brackets (of_left_error xs ys {e = e} split left) =
      subst (λ l. IsFirstOver limit l e) (sym split) (left_over xs ys e (checked_brackets left))
  checked_brackets (of_right_error {xs = xs} {ys = ys} {p = p} {e = e} split left right) =
      let first : Checked limit 0 xs (Ok p) = checked_brackets left in
      subst (λ l. IsFirstOver limit l e) (sym split)
      (right_over xs ys e first.0 (checked_brackets right))

module _ {X Y : Type 0} (xs : List X) (verdict : X → Bool → Type 0)
    (allowed : ℕ → Result Y ℕ → Type 0)
    (judged : (i : ℕ) (out : Result Y ℕ) → allowed i out → Judges verdict xs i out) where
  -- an index that fails first is one of an item that does
  first_item : (e : ℕ) → FailsFirst allowed (λ i. HoldsAt (λ x. verdict x true) xs i) (length xs) e
      → IsFirstFailing verdict xs e
  first_item e (index, within, fails, below) =
      let here = judged index (Err e) fails in
      let same : e ≡ index = here.0 in
      subst (IsFirstFailing verdict xs) (sym same) (within, here.1, λ k d low high. below k high d)

  by_items : (result : Result (Vec Y Global) (Trouble ℕ))
      → MatchResult result (λ _. (i : ℕ) → i < length xs → HoldsAt (λ x. verdict x true) xs i)
      (λ trouble. IfClosure trouble (FailsFirst allowed (λ i. HoldsAt (λ x. verdict x true) xs i)
      (length xs))) → MatchResult result (λ _. All (λ x. verdict x true) xs)
      (λ trouble. IfClosure trouble (IsFirstFailing verdict xs))
  by_items (Ok ys) h = λ k d low. h k low d
  by_items (Err (OfFault f)) h = tt
  by_items (Err (Closure e)) h = first_item e h

-- what a verifier's result says, by the index of each item
pub verified : {X Y : Type 0} (xs : List X) (verdict : X → Bool → Type 0)
    (allowed : ℕ → Result Y ℕ → Type 0) (result : Result (Vec Y Global) (Trouble ℕ))
    → UnlessRefused result (λ out. (is : List ℕ) × (is ≡ range_with_len 0 (length xs - 0))
    × TryMapOf allowed is (listed out))
    → ((i : ℕ) (out : Result Y ℕ) → allowed i out → Judges verdict xs i out)
    → MatchResult result (λ _. All (λ x. verdict x true) xs)
    (λ trouble. IfClosure trouble (IsFirstFailing verdict xs))
verified xs verdict allowed result gave judged =
    by_items xs verdict allowed judged result
    (first_failing allowed (λ i. HoldsAt (λ x. verdict x true) xs i)
    (λ i y k. judged i (Ok y) k) (length xs) result gave)

-- what a checked sum's result says
pub summed : (xs : List ℕ) (limit : ℕ) (identity : ℕ → Type 0) (step : ℕ → ℕ → Result ℕ ℕ → Type 0)
    (reduce : ℕ → ℕ → ℕ → Type 0) (result : Result ℕ (Trouble ℕ))
    → UnlessRefused result (λ outcome. (ys : List ℕ) × (ys ≡ xs)
    × TryBracketing identity step reduce ys outcome) → ((e : ℕ) → identity e → e ≡ 0)
    → ((a x : ℕ) (out : Result ℕ ℕ) → step a x out → AddsWithin limit a x out)
    → ((a b r : ℕ) → reduce a b r → r ≡ (a + b) % 2 ^ 64)
    → MatchResult result (λ r. Checked limit 0 xs (Ok r))
    (λ trouble. IfClosure trouble (IsFirstOver limit xs))
summed xs limit identity step reduce (Ok r) gave zeros steps joins =
    subst (λ l. Checked limit 0 l (Ok r)) gave.1
    (checked_brackets limit identity step reduce zeros (λ a x b k. steps a x (Ok b) k)
    (λ a x e k. steps a x (Err e) k) joins gave.2)
summed xs limit identity step reduce (Err (OfFault f)) gave zeros steps joins = tt
summed xs limit identity step reduce (Err (Closure e)) gave zeros steps joins =
    subst (λ l. Checked limit 0 l (Err e)) gave.1
    (checked_brackets limit identity step reduce zeros (λ a x b k. steps a x (Ok b) k)
    (λ a x e' k. steps a x (Err e') k) joins gave.2)

-- what a verifier of digests returns
pub digests_compared : (messages : Bor (List (Bor (List ℕ)))) (digests : Bor (List (List ℕ)))
    (made : Zipped (Copies (Bor (List ℕ))) (Copies (List ℕ))) (start end : ℕ)
    → made ≡ record { left = record { slice = messages }; right = record { slice = digests } }
    → start ≡ 0 → end ≡ min (length messages.now) (length digests.now)
    → (result : Result (Vec ⊤ Global) (Trouble ℕ)) → UnlessRefused result
    (λ out. (zs : List (ℕ × (Bor (List ℕ) × List ℕ)))
    × PairsOf (λ is. is ≡ range_with_len start (end - start))
    (PairsOf (λ xs. xs ≡ made.left.slice.now) (λ ys. ys ≡ made.right.slice.now)) zs
    × TryMapOf JudgesDigest zs (listed out))
    → MatchResult result (λ _. All HasItsDigest (zip messages.now digests.now))
    (λ trouble. IfClosure trouble (IsFirstMismatch (zip messages.now digests.now)))
digests_compared messages digests made start end is zero whole result gave =
    first_of_numbered JudgesDigest HasItsDigest (λ pair. ¬ HasItsDigest pair)
    (λ p y k. k) (λ p e k. k)
    (λ (p : Zipped (Copies (Bor (List ℕ))) (Copies (List ℕ))).
    PairsOf (λ xs. xs ≡ p.left.slice.now) (λ ys. ys ≡ p.right.slice.now))
    made (record { left = record { slice = messages }; right = record { slice = digests } })
    start end
    (min (length messages.now) (length digests.now)) is zero whole (zip messages.now digests.now)
    (zip_of_lists messages.now digests.now) (length-zip messages.now digests.now) result gave
