-- A step adds one where the item satisfies the test, and a reduction adds two counts.
use Rattle.std.proofs.Common.{◌≡◌, ℕ, ◌+◌, ◌%◌, ◌^◌, ◌<◌, List, [], ◌∷◌, Bool, cond, length, refl, sym, ◌∙◌, ap, arith, rules}
use Rattle.std.specs.Prelude.{count_by}
use Rattle.std.proofs.lemmas.List.Sums.{count_by-le-length, sum_by-cons}
use Rattle.std.proofs.Math.Nat.{mod-eq_of_lt}
use Rattle.parallel_bridge.specs.Lists.{Bracketing, MapOf}
use Rattle.parallel_bridge.proofs.Folded.{fold_of_verdicts}
use Rattle.parallel_bridge.proofs.WrappingSums.{sum_of_brackets}
use Rattle.parallel_calls.specs.Counts.{CountOf, CountsOn}
use Rattle.parallel_calls.specs.Functions.{GoesBy}
use Rattle.std.proofs.lemmas.Result.{IfOk-weaker}
use Rattle.parallel_calls.proofs.on.On.count.Goals as goal

abbrev one_if : Bool → ℕ
one_if b = cond b 1 0

-- a fold that counts so
count_of_fold : {X : Type 0} (verdict : X → Bool → Type 0) (identity : ℕ → Type 0)
    (step : ℕ → X → ℕ → Type 0) (reduce : ℕ → ℕ → ℕ → Type 0) → ((e : ℕ) → identity e → e ≡ 0)
    → ((a : ℕ) (x : X) (b : ℕ) → step a x b → CountsOn verdict a x b)
    → ((a b r : ℕ) → reduce a b r → r ≡ (a + b) % 2 ^ 64)
    → (xs : List X) (r : ℕ) → Bracketing identity step reduce xs r → CountOf verdict xs r
count_of_fold verdict identity step reduce starts steps reduces xs r brackets =
    let counts : ℕ → Bool → ℕ → Type 0 = λ a b r. r ≡ (a + one_if b) % 2 ^ 64 in
    let (bs, each, count) =
    fold_of_verdicts verdict counts identity step reduce steps brackets in (
      bs,
      each,
      sum_of_brackets (2 ^ 64) one_if identity counts reduce bs r count (omega arith) starts
          (λ a b r h. h) reduces,
    )

module _ {X : Type 0} (verdict : X → Bool → Type 0) (passes : X → Bool)
    (goes : GoesBy verdict passes) where
  same_count : (xs : List X) (bs : List Bool) → MapOf verdict xs bs
      → count_by (λ b. b) bs ≡ count_by passes xs
  same_count [] [] h = refl
  same_count [] (b ∷ bs) h = absurd h
  same_count (x ∷ xs) [] h = absurd h
  same_count (x ∷ xs) (b ∷ bs) h =
      let rest = same_count xs bs h.1 in
      let one : one_if b ≡ one_if (passes x) = ap one_if (goes x b h.0) in
      let left = sum_by-cons one_if b bs in
      let right = sum_by-cons (λ y. one_if (passes y)) x xs in
      left ∙ omega (arith, rest, one) ∙ sym right

  plain_count : (xs : List X) (n : ℕ) → CountOf verdict xs n → n ≡ count_by passes xs % 2 ^ 64
  plain_count xs n (bs, each, is) = is ∙ ap (λ c. c % 2 ^ 64) (same_count xs bs each)

  exact_count : (xs : List X) (n : ℕ) → CountOf verdict xs n → length xs < 2 ^ 64
      → n ≡ count_by passes xs
  exact_count xs n h short =
      let below = count_by-le-length passes xs in
      plain_count xs n h ∙ mod-eq_of_lt (omega (arith, below, short))

pub returns-clause-counted : goal.returns-clause-counted
returns-clause-counted g c = IfOk-weaker c.fold.result _ _ (λ r w. (
  w.0,
  w.1,
  count_of_fold (λ x b. goal.F-post g c.args.test x b) _ _ _ (λ e k. search rules)
      (λ a x b k. search rules) (λ a b r k. search rules) w.0 r w.2,
)) c.fold.ensures.brackets

pub returns-clause-plain : goal.returns-clause-plain
returns-clause-plain g c passes goes = IfOk-weaker c.fold.result _ _
    (λ r w. (w.0, w.1, plain_count (λ x b. goal.F-post g c.args.test x b) passes goes w.0 r w.2))
    (returns-clause-counted g c)

pub returns-clause-exact : goal.returns-clause-exact
returns-clause-exact g c passes goes = IfOk-weaker c.fold.result _ _
    (λ r w. (w.0, w.1, exact_count (λ x b. goal.F-post g c.args.test x b) passes goes w.0 r w.2))
    (returns-clause-counted g c)
