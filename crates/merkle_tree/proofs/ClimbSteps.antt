-- Where the steps of a proof lead.
use Rattle.std.proofs.Common.{◌≡◌, ℕ, ◌+◌, ◌/◌, ◌<◌, ◌≤◌, List, [], ◌∷◌, length, get_or, Option, Some, None, refl, sym, ◌∙◌, ap, drop, drop-cons, add-one}
use Rattle.std.proofs.Math.ListN.{drop_of_length-le}
use Rattle.std.proofs.lemmas.Bool.{cond_above, cond_below}
use Rattle.std.specs.Int.{div_ceil}
use Rattle.std.specs.Option.{option_and_then}
use Rattle.merkle_tree.specs.Merkle.{climb, one_up}

module _ {X : Type 0} (node : X → X → X) where
  -- no step is left
  pub climb_end : (count index : ℕ) (own : X) → count ≤ 1 → climb node count index own [] ≡ Some own
  unfolding climb
  climb_end count index own one = sym (cond_above 1 count None (Some own) (Some own) one refl)

  -- a step too few
  pub climb_short : (count index : ℕ) (own : X) → 1 < count → climb node count index own [] ≡ None
  unfolding climb
  climb_short count index own more = sym (cond_below 1 count None (Some own) more)

  -- a step too many
  pub climb_long : (count index : ℕ) (own : X) (step : Option X) (steps : List (Option X))
      → count ≤ 1 → climb node count index own (step ∷ steps) ≡ None
  unfolding climb
  climb_long count index own step steps one = sym (cond_above 1 count _ None None one refl)

  -- one step
  pub climb_step : (count index : ℕ) (own : X) (step : Option X) (steps : List (Option X))
      → 1 < count → climb node count index own (step ∷ steps)
      ≡ option_and_then (λ next. climb node (div_ceil count 2) (index / 2) next steps)
      (one_up node count index own step)
  unfolding climb
  climb_step count index own step steps more = sym (cond_below 1 count _ None more)

  -- the same of the steps that are left of all
  module _ (steps : List (Option X)) (k count index : ℕ) (own : X) (whole : Option X) where
    -- the rest begins with a step
    opened : k < length steps
        → drop k steps ≡ get_or steps k None ∷ drop (k + 1) steps
    opened h = drop-cons steps k None h
        ∙ ap (λ j. get_or steps k None ∷ drop j steps) (sym (add-one k))

    pub ends : length steps ≤ k → count ≤ 1 → climb node count index own (drop k steps) ≡ whole
        → Some own ≡ whole
    ends none one leads = sym (climb_end count index own one)
        ∙ ap (climb node count index own) (sym (drop_of_length-le steps none)) ∙ leads

    pub too_few : length steps ≤ k → 1 < count → climb node count index own (drop k steps) ≡ whole
        → None ≡ whole
    too_few none more leads = sym (climb_short count index own more)
        ∙ ap (climb node count index own) (sym (drop_of_length-le steps none)) ∙ leads

    pub too_many : k < length steps → count ≤ 1 → climb node count index own (drop k steps) ≡ whole
        → None ≡ whole
    too_many some one leads =
        sym (climb_long count index own (get_or steps k None) (drop (k + 1) steps) one)
        ∙ ap (climb node count index own) (sym (opened some)) ∙ leads

    pub leads_on : k < length steps → 1 < count
        → climb node count index own (drop k steps) ≡ whole
        → option_and_then (λ next. climb node (div_ceil count 2) (index / 2) next
        (drop (k + 1) steps))
        (one_up node count index own (get_or steps k None)) ≡ whole
    leads_on some more leads =
        sym (climb_step count index own (get_or steps k None) (drop (k + 1) steps) more)
        ∙ ap (climb node count index own) (sym (opened some)) ∙ leads

    pub leads_nowhere : k < length steps → 1 < count
        → one_up node count index own (get_or steps k None) ≡ None
        → climb node count index own (drop k steps) ≡ whole → None ≡ whole
    leads_nowhere some more refused leads =
        sym (ap (option_and_then (λ next. climb node (div_ceil count 2) (index / 2) next
        (drop (k + 1) steps))) refused) ∙ leads_on some more leads

    pub goes_on : (next : X) → k < length steps → 1 < count
        → one_up node count index own (get_or steps k None) ≡ Some next
        → climb node count index own (drop k steps) ≡ whole
        → climb node (div_ceil count 2) (index / 2) next (drop (k + 1) steps) ≡ whole
    goes_on next some more went leads =
        sym (ap (option_and_then (λ next. climb node (div_ceil count 2) (index / 2) next
        (drop (k + 1) steps))) went) ∙ leads_on some more leads
