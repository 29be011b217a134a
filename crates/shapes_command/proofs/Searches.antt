-- What a search through the rules tells of a closure's outputs.
use Rattle.shapes_command.proofs.Common.{◌≡◌, Bool, true, false, List, [], ◌∷◌, Result, Ok, Err, IfErr, ap, sym, subst, Bor, Explorer, Serial, EndsAtParallel}
use Rattle.commonware_parallel.specs.declared.mocks.rule.Rule.TheVariants.{Parallel}
use Rattle.commonware_parallel.specs.Exploring.{Explored, RunsBy}
use Rattle.commonware_parallel.specs.declared.mocks.explore_error.ExploreError.{ExploreError}
use Rattle.commonware_parallel.specs.declared.mocks.explore_error.ExploreError.TheVariants.{Differs, Build}
use Rattle.commonware_parallel.specs.declared.mocks.rule.Rule.{Rule}

abbrev first_of : Rule → List Rule → Rule
first_of rule [] = rule
first_of rule (x ∷ xs) = x

-- a search whose serial output is false and whose parallel one is true ends at the parallel rule
module _ {F : Type 0} (step : F → Bor Explorer → Bool → F → Type 0) (eq : Bool → Bool → Bool)
    (apart : ¬ (eq true false ≡ true))
    (is_false : (f g : F) (explorer : Bor Explorer) (out : Bool) → step f explorer out g
    → explorer.now.rule ≡ Serial → out ≡ false)
    (is_true : (f g : F) (explorer : Bor Explorer) (out : Bool) → step f explorer out g
    → explorer.now.planning ≡ 8 → explorer.now.rule ≡ Parallel → out ≡ true) where
  -- a serial output and a parallel one aren't found equal
  outputs_differ : (f g h i : F) (serial parallel : Bool) → RunsBy step eq Serial f serial g
      → RunsBy step eq Parallel h parallel i → ¬ (eq parallel serial ≡ true)
  outputs_differ f g h i serial parallel one two same =
      let none : serial ≡ false = is_false f g one.0 serial one.2 one.1.2 in
      let some : parallel ≡ true = is_true h i two.0 parallel two.2 two.1.1 two.1.2 in
      apart (subst (λ s. eq true s ≡ true) none (subst (λ p. eq p serial ≡ true) some same))

  pub ends_at_parallel : (run : F) (result : Result Bool ExploreError) → Explored step eq run result
      → IfErr result EndsAtParallel
  ends_at_parallel run (Ok r) told = tt
  ends_at_parallel run (Err (Build error)) told = tt
  ends_at_parallel run (Err (Differs rule))
      (serial, r, g, h, i, [], after, split, runs, agree, last, unequal) = sym
      (ap (first_of Serial) split)
  ends_at_parallel run (Err (Differs rule)) (
    serial,
    r,
    g,
    h,
    i,
    p ∷ before,
    after,
    split,
    runs,
    (other, k, by, same, rest),
    last,
    unequal,
  ) =
      absurd (outputs_differ run g g k serial other runs
      (subst (λ q. RunsBy step eq q g other k) (sym (ap (first_of Serial) split)) by) same)
