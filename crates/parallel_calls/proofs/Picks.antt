-- The item that takes the place of each before it, and whose place none after it takes.
use Rattle.std.proofs.Common.{◌≡◌, List, [], ◌∷◌, ◌++◌, append_assoc, append-nil, Option, Some, None, Bool, true, false, not, cond}
use Rattle.std.proofs.Common.{refl, sym, ◌∙◌, ap, subst, ◌⊎◌, inl, inr, Bor}
use Rattle.std.specs.List.{All}
use Rattle.parallel_bridge.specs.Comes.{Comes, comes_within}
use Rattle.parallel_bridge.specs.Lists.{Bracketing}
use Rattle.std.specs.Cmp.{IsStrictWeakOrder}
use Rattle.std.proofs.lemmas.Bool.{cond_both, cond-true, cond-false, false≢true, false_from_ne_true, true_from_ne_false}
use Rattle.std.proofs.lemmas.List.Elements.{All-nil, All-cons, All-append, All-weaker}
use Rattle.parallel_calls.specs.Extremes.{AcceptsTwo, GreatestOf, IsOneOf, LeastOf, PickOf, beats, picked}
use Rattle.parallel_bridge.proofs.Folded.{fold_has}

-- what taking places has to keep
pub record Wins {X : Type 0} (wins : X → X → Bool) : Type 0 where
  pub far : (c b a : X) → wins c b ≡ true → wins b a ≡ true → wins c a ≡ true
  pub over : (c b a : X) → wins c b ≡ true → wins a b ≡ false → wins c a ≡ true
  pub under : (c b a : X) → wins c b ≡ true → wins c a ≡ false → wins b a ≡ false
  pub behind : (c b a : X) → wins c b ≡ false → wins b a ≡ false → wins c a ≡ false

module _ {X : Type 0} (lt : X → X → Bool) (order : IsStrictWeakOrder lt) where
  less_far : (c b a : X) → lt c b ≡ true → lt b a ≡ true → lt c a ≡ true
  less_far c b a one two = true_from_ne_false (lt c a) (λ lost.
      false≢true (sym (order.chain c a b lost (order.one_way b a two)) ∙ one))

  less_over : (c b a : X) → lt c b ≡ true → lt a b ≡ false → lt c a ≡ true
  less_over c b a one two = true_from_ne_false (lt c a) (λ lost.
      false≢true (sym (order.chain c a b lost two) ∙ one))

  less_under : (c b a : X) → lt c b ≡ true → lt c a ≡ false → lt b a ≡ false
  less_under c b a one two = false_from_ne_true (lt b a) (λ won.
      false≢true (sym (order.chain c a b two (order.one_way b a won)) ∙ one))

untrue : (b : Bool) → not b ≡ true → b ≡ false
untrue true h = absurd (false≢true h)
untrue false h = refl

unfalse : (b : Bool) → not b ≡ false → b ≡ true
unfalse true h = refl
unfalse false h = absurd (false≢true (sym h))

-- both ways of taking places keep it, for a strict weak order
pub beats_wins : {X : Type 0} (is_least : Bool) (lt : X → X → Bool) → IsStrictWeakOrder lt
    → Wins (beats is_least lt)
beats_wins true lt order = record {
  far = less_far lt order;
  over = less_over lt order;
  under = less_under lt order;
  behind = λ c b a one two. order.chain c b a one two;
}
beats_wins false lt order = record {
  far = λ c b a one two. ap not (order.chain c b a (untrue _ one) (untrue _ two));
  over =
      λ c b a one two. ap not (false_from_ne_true (lt c a) (λ won. false≢true (sym (untrue _ one)
      ∙ less_far lt order c a b won (unfalse _ two))));
  under =
      λ c b a one two. ap not (true_from_ne_false (lt b a) (λ lost. false≢true (sym
      (order.chain c b a (untrue _ one) lost) ∙ unfalse _ two)));
  behind = λ c b a one two. ap not (less_far lt order c b a (unfalse _ one) (unfalse _ two));
}

module _ {X : Type 0} (wins : X → X → Bool) (laws : Wins wins) where
  -- the later item takes the earlier one's place
  takes : (xs ys : List X) (a b : X) → wins b a ≡ true → PickOf wins xs (Some a)
      → PickOf wins ys (Some b) → PickOf wins (xs ++ ys) (Some b)
  takes xs ys a b won (fa, ba, cut, front, back) (fb, bb, cut', front', back') =
      let P : X → Type 0 = λ x. wins b x ≡ true in
      let old : All P xs =
      subst (All P) (sym cut) (All-append P fa (a ∷ ba)
      (All-weaker (λ x. wins a x ≡ true) P (λ x h. laws.far b a x won h) fa front)
      (All-cons P a ba won
      (All-weaker (λ x. wins x a ≡ false) P (λ x h. laws.over b a x won h) ba back))) in (
        xs ++ fb,
        bb,
        ap (λ l. xs ++ l) cut' ∙ sym (append_assoc xs fb (b ∷ bb)),
        All-append P xs fb old front',
        back',
      )

  -- or leaves it
  keeps : (xs ys : List X) (a b : X) → wins b a ≡ false → PickOf wins xs (Some a)
      → PickOf wins ys (Some b) → PickOf wins (xs ++ ys) (Some a)
  keeps xs ys a b lost (fa, ba, cut, front, back) (fb, bb, cut', front', back') =
      let Q : X → Type 0 = λ x. wins x a ≡ false in
      let new : All Q ys =
      subst (All Q) (sym cut') (All-append Q fb (b ∷ bb)
      (All-weaker (λ x. wins b x ≡ true) Q (λ x h. laws.under b x a h lost) fb front')
      (All-cons Q b bb lost
      (All-weaker (λ x. wins x b ≡ false) Q (λ x h. laws.behind x b a h lost) bb back'))) in (
        fa,
        ba ++ ys,
        ap (λ l. l ++ ys) cut ∙ append_assoc fa (a ∷ ba) ys,
        front,
        All-append Q ba ys back new,
      )

  pub pick_joins : (xs ys : List X) (p q : Option X) → PickOf wins xs p → PickOf wins ys q
      → PickOf wins (xs ++ ys) (picked wins p q)
  pick_joins xs ys None q left right = subst (λ l. PickOf wins (l ++ ys) q) (sym left) right
  pick_joins xs ys (Some a) None left right =
      subst (λ l. PickOf wins (xs ++ l) (Some a)) (sym right)
      (subst (λ l. PickOf wins l (Some a)) (sym (append-nil xs)) left)
  pick_joins xs ys (Some a) (Some b) left right =
      cond_both (wins b a) (Some b) (Some a) (λ w. PickOf wins (xs ++ ys) w)
      (λ won. takes xs ys a b won left right) (λ lost. keeps xs ys a b lost left right)

  -- of one item that one
  pub pick_of_one : (x : X) → PickOf wins (x ∷ []) (Some x)
  pick_of_one x =
      ([], [], refl, All-nil (λ y. wins x y ≡ true), All-nil (λ y. wins y x ≡ false))

  -- a fold that takes places so
  pub pick_of_fold : (identity : Option X → Type 0) (step : Option X → X → Option X → Type 0)
      (reduce : Option X → Option X → Option X → Type 0)
      → ((e : Option X) → identity e → e ≡ None)
      → ((a : Option X) (x : X) (b : Option X) → step a x b → b ≡ picked wins a (Some x))
      → ((a b r : Option X) → reduce a b r → r ≡ picked wins a b)
      → (xs : List X) (r : Option X) → Bracketing identity step reduce xs r → PickOf wins xs r
  pick_of_fold identity step reduce starts steps reduces xs r brackets =
      fold_has identity step reduce (PickOf wins)
      (λ e i. subst (PickOf wins []) (sym (starts e i)) refl)
      (λ ys a x b h one. subst (PickOf wins (ys ++ (x ∷ []))) (sym (steps a x b one))
      (pick_joins ys (x ∷ []) a (Some x) h (pick_of_one x)))
      (λ ys zs p q s h h' one. subst (PickOf wins (ys ++ zs)) (sym (reduces p q s one))
      (pick_joins ys zs p q h h')) brackets

-- a closure that takes two, in either order, takes them so
pub accepts_either : {X : Type 0} (accepts : Bor X → Bor X → Type 0) (first second : Option X)
    → AcceptsTwo accepts first second → (one other : Bor X)
    → ((first ≡ Some one.now) × (second ≡ Some other.now))
    ⊎ ((first ≡ Some other.now) × (second ≡ Some one.now)) → accepts one other
accepts_either accepts first second takes one other (inl are) = (takes one other are.0 are.1).0
accepts_either accepts first second takes one other (inr are) = (takes other one are.0 are.1).1

-- what a pick of items that may come may meet
module _ {X : Type 0} (may : X → Type 0) where
  abbrev MayMeet : Option X → Type 0
  MayMeet found = (x : X) → found ≡ Some x → may x

  one_may : (a b r : Option X) → MayMeet a → MayMeet b → IsOneOf a b r → MayMeet r
  one_may a b r first second (inl same) = λ x is. first x (sym same ∙ is)
  one_may a b r first second (inr same) = λ x is. second x (sym same ∙ is)

  pub item_may : (x : X) → may x → MayMeet (Some x)
  item_may x h = λ y is. let same : x ≡ y = cc in subst may same h

  -- so that a closure which takes such items takes these
  pub accepts_items : (accepts : Bor X → Bor X → Type 0)
      → ((left right : Bor X) → may left.now → may right.now → accepts left right)
      → (first second : Option X) → MayMeet first → MayMeet second → AcceptsTwo accepts first second
  accepts_items accepts items first second one other = λ earlier later is is'.
      let front = one earlier.now is in
      let back = other later.now is' in
      (items earlier later front back, items later earlier back front)

  -- each value that a pick may meet holds such an item, or none
  pub pick_may : (identity : Option X → Type 0) (step : Option X → X → Option X → Type 0)
      (reduce : Option X → Option X → Option X → Type 0)
      → ((e : Option X) → identity e → e ≡ None)
      → ((a : Option X) (x : X) (b : Option X) → step a x b → IsOneOf a (Some x) b)
      → ((a b r : Option X) → reduce a b r → IsOneOf a b r)
      → (found : Option X) → Comes identity step reduce may found → MayMeet found
  pick_may identity step reduce starts steps reduces found comes =
      comes_within MayMeet (λ e i x is. let no : None ≡ Some x = sym (starts e i) ∙ is in absurd cc)
      (λ a x b h within one. one_may a (Some x) b h (item_may x within) (steps a x b one))
      (λ a b r h k one. one_may a b r h k (reduces a b r one)) found comes

-- in the words of the two
pub least_of : {X : Type 0} (lt : X → X → Bool) (xs : List X) (found : Option X)
    → PickOf (beats true lt) xs found → LeastOf lt xs found
least_of lt xs None h = h
least_of lt xs (Some m) h = h

pub greatest_of : {X : Type 0} (lt : X → X → Bool) (xs : List X) (found : Option X)
    → PickOf (beats false lt) xs found → GreatestOf lt xs found
greatest_of lt xs None h = h
greatest_of lt xs (Some m) (before, after, cut, front, back) = (
  before,
  after,
  cut,
  All-weaker (λ x. not (lt m x) ≡ true) (λ x. lt m x ≡ false) (λ x h. untrue (lt m x) h) before
      front,
  All-weaker (λ x. not (lt x m) ≡ false) (λ x. lt x m ≡ true) (λ x h. unfalse (lt x m) h) after
      back,
)

beats_is : {X : Type 0} (is_least : Bool) (lt : X → X → Bool) (later earlier : X) (less : Bool)
    → less ≡ lt later earlier → cond is_least less (not less) ≡ beats is_least lt later earlier
beats_is true lt later earlier less is = is
beats_is false lt later earlier less is = ap not is

-- what a test of two items picks
module _ {X : Type 0} (is_least : Bool) (lt : X → X → Bool) (first second : Option X)
    (earlier later : X) (less win : Bool) (one : first ≡ Some earlier) (two : second ≡ Some later)
    (is : less ≡ lt later earlier) (told : win ≡ cond is_least less (not less)) where
  both : picked (beats is_least lt) first second
      ≡ cond (beats is_least lt later earlier) (Some later) (Some earlier)
  both = ap (λ o. picked (beats is_least lt) o second) one
      ∙ ap (λ o. picked (beats is_least lt) (Some earlier) o) two

  pub picks_later : win ≡ true → Some later ≡ picked (beats is_least lt) first second
  picks_later won = sym (both ∙ cond-true (beats is_least lt later earlier) (Some later)
      (Some earlier) (sym (told ∙ beats_is is_least lt later earlier less is) ∙ won))

  pub picks_earlier : win ≡ false → Some earlier ≡ picked (beats is_least lt) first second
  picks_earlier lost = sym (both ∙ cond-false (beats is_least lt later earlier) (Some later)
      (Some earlier) (sym (told ∙ beats_is is_least lt later earlier less is) ∙ lost))
