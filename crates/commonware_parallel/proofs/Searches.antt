-- What a search through the rules returns, from what its runs did.
use Rattle.commonware_parallel.proofs.Common.{◌≡◌, [], ◌∷◌, ◌++◌, List, Bool, Result, Ok, Err, IsErrAnd, refl, sym, subst, Bor, Explorer}
use Rattle.commonware_parallel.specs.Exploring.{RunsBy, Compares, Agree, Explored, rules_behind}
use Rattle.commonware_parallel.specs.declared.mocks.explore_error.ExploreError.{ExploreError}
use Rattle.commonware_parallel.specs.declared.mocks.explore_error.ExploreError.TheVariants.{Differs, Build}
use Rattle.commonware_parallel.specs.declared.mocks.rule.Rule.{Rule}
use Rattle.commonware_parallel.specs.declared.mocks.rule.Rule.TheVariants.{Serial}

-- the runs so far: the serial one, and after it those by these rules, which agree with it
pub record AgreeSoFar {F R : Type 0} (step : F → Bor Explorer → R → F → Type 0)
    (eq : R → R → Bool) (f : F) (serial : R) (before : List Rule) (h : F) : Type 0 where
  pub behind : F
  pub first : RunsBy step eq Serial f serial behind
  pub agree : Agree step eq serial before behind h

module _ {F R : Type 0} (step : F → Bor Explorer → R → F → Type 0) (eq : R → R → Bool) where
  -- the serial run alone
  pub serial_alone : (f g : F) (serial : R) → RunsBy step eq Serial f serial g
      → AgreeSoFar step eq f serial [] g
  serial_alone f g serial first = record { behind = g; first = first; agree = refl }

  -- one run more that agrees
  agree_push : {serial : R} (before : List Rule) (g h i : F) (rule : Rule)
      → Agree step eq serial before g h → Compares step eq serial rule h i (Ok tt)
      → Agree step eq serial (before ++ rule ∷ []) g i
  agree_push {serial} [] g h i rule same (r, by, equal) =
      (r, i, subst (λ k. RunsBy step eq rule k r i) (sym same) by, equal, refl)
  agree_push (b ∷ before) g h i rule (r, k, by, equal, rest) more =
      (r, k, by, equal, agree_push before k h i rule rest more)

module _ {F R : Type 0} {step : F → Bor Explorer → R → F → Type 0} {eq : R → R → Bool} where
  pub one_agrees : {f h : F} {serial : R} {before : List Rule} (i : F) (rule : Rule)
      → AgreeSoFar step eq f serial before h → Compares step eq serial rule h i (Ok tt)
      → AgreeSoFar step eq f serial (before ++ rule ∷ []) i
  one_agrees {f} {h} {serial} {before} i rule so_far more = record {
    behind = so_far.behind;
    first = so_far.first;
    agree = agree_push step eq before so_far.behind h i rule so_far.agree more;
  }

  -- a run that differs, or that could not be made: the error goes on through `?` as it is
  pub told : {f h : F} {serial : R} {before : List Rule} (i : F) (rule : Rule) (after : List Rule)
      (error : ExploreError) (result : Result R ExploreError)
      → AgreeSoFar step eq f serial before h → rules_behind ≡ before ++ (rule ∷ after)
      → Compares step eq serial rule h i (Err error) → IsErrAnd result (λ x. x ≡ error)
      → Explored step eq f result
  told i rule after error (Ok r) so_far split ends none = absurd none
  told {f} {h} {serial} {before} i rule after (Differs other)
      (Err x) so_far split (named, r, by, differs) same =
      subst (λ (y : ExploreError). Explored step eq f (Err y)) (sym same)
      (subst (λ (y : Rule). Explored step eq f (Err (Differs y))) (sym named) (
        serial,
        r,
        so_far.behind,
        h,
        i,
        before,
        after,
        split,
        so_far.first,
        so_far.agree,
        by,
        differs,
      ))
  told {f} i rule after (Build error) (Err x) so_far split wanting same =
      subst (λ (y : ExploreError). Explored step eq f (Err y)) (sym same) wanting
