-- The fold by `longer_of` gives the first of the longest words.
use Rattle.std.proofs.Common.{◌≡◌, ℕ, ◌<◌, ◌≤◌, true, List, [], ◌∷◌, ◌++◌, append-nil, length, All, Option, Some, None, MatchOption, nat_lt, Result, IfOk, Bor}
use Rattle.std.proofs.Common.{refl, sym, ◌∙◌, ap, subst, fold, append_assoc, arith}
use Rattle.std.proofs.lemmas.Bool.{cond_both, cond-true, cond-false, ltb-true, ltb-false, lt-ltb, le-ltb}
use Rattle.std.proofs.lemmas.List.Elements.{All-nil, All-cons, All-append, All-weaker}
use Rattle.std.proofs.lemmas.Result.{IfOk-weaker}
use Rattle.parallel_bridge.specs.Lists.{Bracketing}
use Rattle.parallel_bridge.specs.Folds.{FoldLaws}
use Rattle.parallel_bridge.proofs.OverLists.{fold_of_list}
use Rattle.uses.specs.Words.{longer_of, IsFirstLongest}

abbrev Word : Type 0
Word = Bor (List ℕ)

-- of three words the first longest is the same, whichever two are compared first
longer_of-assoc : (a b c : Option Word) → longer_of (longer_of a b) c ≡ longer_of a (longer_of b c)
longer_of-assoc None b c = refl
longer_of-assoc (Some a) None c = refl
longer_of-assoc (Some a) (Some b) None = cond_both (nat_lt (length a.now) (length b.now)) (Some b)
    (Some a) (λ w. longer_of w None ≡ w) (λ _. refl) (λ _. refl)
longer_of-assoc (Some a) (Some b) (Some c) =
    let la = length a.now in
    let lb = length b.now in
    let lc = length c.now in
    cond_both (nat_lt la lb) (Some b) (Some a)
    (λ w. longer_of w (Some c) ≡ longer_of (Some a) (longer_of (Some b) (Some c)))
    (λ p. cond_both (nat_lt lb lc) (Some c) (Some b) (λ w. w ≡ longer_of (Some a) w)
    (λ q. sym (cond-true (nat_lt la lc) (Some c) (Some a)
    (lt-ltb la lc (omega (arith, ltb-true la lb p, ltb-true lb lc q)))))
    (λ q. sym (cond-true (nat_lt la lb) (Some b) (Some a) p)))
    (λ p. cond_both (nat_lt lb lc) (Some c) (Some b)
    (λ w. longer_of (Some a) (Some c) ≡ longer_of (Some a) w)
    (λ q. refl)
    (λ q. cond-false (nat_lt la lc) (Some c) (Some a)
    (le-ltb la lc (omega (arith, ltb-false la lb p, ltb-false lb lc q)))
    ∙ sym (cond-false (nat_lt la lb) (Some b) (Some a) p)))

-- any word is as long as no word
longer_of-none : (a : Option Word) → longer_of a None ≡ a
longer_of-none None = refl
longer_of-none (Some a) = refl

-- closures that take the longer word keep the laws of folds
pub longer_keeps_laws : (identity : Option Word → Type 0)
    (step : Option Word → Word → Option Word → Type 0)
    (reduce : Option Word → Option Word → Option Word → Type 0) (words : List Word)
    → ((e : Option Word) → identity e → e ≡ None)
    → ((a : Option Word) (x : Word) (b : Option Word) → step a x b → b ≡ longer_of a (Some x))
    → ((a b r : Option Word) → reduce a b r → r ≡ longer_of a b)
    → FoldLaws identity step reduce None (λ a x. longer_of a (Some x)) longer_of (λ _. true) words
longer_keeps_laws identity step reduce words starts steps reduces = record {
  starts = starts;
  steps = λ a x b good within stepped. steps a x b stepped;
  reduces = λ a b r good good' reduced. reduces a b r reduced;
  good_unit = refl;
  good_step = λ a x good within. refl;
  good_reduce = λ a b good good'. refl;
  neutral = λ a good. longer_of-none a;
  passes = λ a b x good good' within. longer_of-assoc a b (Some x);
}

-- a longer word takes the place of the longest so far
takes : (seen : List Word) (best word : Word) → length best.now < length word.now
    → IsFirstLongest seen best → IsFirstLongest (seen ++ (word ∷ [])) word
takes seen best word longer (before, after, split, shorter, no_longer) =
    let P : Word → Type 0 = λ other. length other.now < length word.now in
    let front : All P before = All-weaker (λ other. length other.now < length best.now) P
    (λ other h. omega (arith, h, longer)) before shorter in
    let back : All P after = All-weaker (λ other. length other.now ≤ length best.now) P
    (λ other h. omega (arith, h, longer)) after no_longer in (
      seen,
      [],
      refl,
      subst (All P) (sym split)
          (All-append P before (best ∷ after) front (All-cons P best after longer back)),
      All-nil (λ other. length other.now ≤ length word.now),
    )

-- any other leaves it
keeps : (seen : List Word) (best word : Word) → length word.now ≤ length best.now
    → IsFirstLongest seen best → IsFirstLongest (seen ++ (word ∷ [])) best
keeps seen best word no_more (before, after, split, shorter, no_longer) =
    let Q : Word → Type 0 = λ other. length other.now ≤ length best.now in (
      before,
      after ++ (word ∷ []),
      ap (λ l. l ++ (word ∷ [])) split
          ∙ append_assoc before (best ∷ after) (word ∷ []),
      shorter,
      All-append Q after (word ∷ []) no_longer (All-cons Q word [] no_more (All-nil Q)),
    )

-- the fold from the longest word so far
longest_from : (seen : List Word) (best : Word) (words : List Word) → IsFirstLongest seen best
    → MatchOption (fold (λ a x. longer_of a (Some x)) (Some best) words) ⊥
    (IsFirstLongest (seen ++ words))
longest_from seen best [] h = subst (λ l. IsFirstLongest l best) (sym (append-nil seen)) h
longest_from seen best (word ∷ words) h =
    let f : Option Word → Word → Option Word = λ a x. longer_of a (Some x) in
    let joined = append_assoc seen (word ∷ []) words in
    cond_both (nat_lt (length best.now) (length word.now)) (Some word) (Some best)
    (λ w. MatchOption (fold f w words) ⊥ (IsFirstLongest (seen ++ (word ∷ words))))
    (λ p. subst (λ l. MatchOption (fold f (Some word) words) ⊥ (IsFirstLongest l)) joined
    (longest_from (seen ++ (word ∷ [])) word words (takes seen best word (ltb-true _ _ p) h)))
    (λ p. subst (λ l. MatchOption (fold f (Some best) words) ⊥ (IsFirstLongest l)) joined
    (longest_from (seen ++ (word ∷ [])) best words (keeps seen best word (ltb-false _ _ p) h)))

-- a result that is there
some_answer : {X : Type 0} (o : Option X) (N : Type 0) (P : X → Type 0) → MatchOption o ⊥ P
    → MatchOption o N P
some_answer None N P h = absurd h
some_answer (Some x) N P h = h

-- the fold of all words
longest_of_fold : (words : List Word)
    → MatchOption (fold (λ a x. longer_of a (Some x)) None words) (words ≡ [])
    (IsFirstLongest words)
longest_of_fold [] = refl
longest_of_fold (x ∷ xs) =
    let all = longest_from (x ∷ []) x xs (
      [],
      [],
      refl,
      All-nil (λ other. length other.now < length x.now),
      All-nil (λ other. length other.now ≤ length x.now),
    ) in
    some_answer (fold (λ a x. longer_of a (Some x)) (Some x) xs) ((x ∷ xs) ≡ [])
    (IsFirstLongest (x ∷ xs)) all

-- a fold that takes the longer word, over a list
pub longest_of_list : {E : Type 0} (words : List Word) (identity : Option Word → Type 0)
    (step : Option Word → Word → Option Word → Type 0)
    (reduce : Option Word → Option Word → Option Word → Type 0) (result : Result (Option Word) E)
    → IfOk result (λ r. (xs : List Word) × (xs ≡ words) × Bracketing identity step reduce xs r)
    → ((e : Option Word) → identity e → e ≡ None)
    → ((a : Option Word) (x : Word) (b : Option Word) → step a x b → b ≡ longer_of a (Some x))
    → ((a b r : Option Word) → reduce a b r → r ≡ longer_of a b)
    → IfOk result (λ r. MatchOption r (words ≡ []) (IsFirstLongest words))
longest_of_list words identity step reduce result gave starts steps reduces =
    IfOk-weaker result _ _ (λ r e. subst (λ o. MatchOption o (words ≡ []) (IsFirstLongest words))
    (sym e) (longest_of_fold words))
    (fold_of_list words identity step reduce None (λ a x. longer_of a (Some x)) longer_of
    (λ _. true) result gave (longer_keeps_laws identity step reduce words starts steps reduces))
