-- How the count goes on between two measured choices.
use Rattle.std.proofs.Common.{◌≡◌, ◌≢◌, ◌⊎◌, inl, inr, ℕ, ◌+◌, ◌-◌, ◌%◌, ◌^◌, ◌<◌, ◌≤◌, min, max, Bool, true, false, cond, nat_le, ◌==◌, ◌/◌, Option, Some, None, [], ◌∷◌, ◌++◌, refl, arith}
use Rattle.std.proofs.lemmas.Bool.Decides.{nat_tests}
use Rattle.std.proofs.lemmas.Bool.{cases_lt}
use Rattle.std.proofs.Math.Pow.{pow_mono}
use Rattle.parallel_policy.specs.declared.execution.RunExecution.TheVariants.{Serial, Parallel}
use Rattle.parallel_policy.specs.declared.history.RunEvent.TheVariants.{Chosen, Sampled}
use Rattle.parallel_policy.specs.Arbitration.{Contest, interval_of, counted, is_due, arbitrated, count_after}
use Rattle.parallel_policy.specs.Runs.{RunHistory, run_estimate, run_contest, run_answer, run_count_after, run_count}
use Rattle.parallel_policy.specs.Laws.{choices_of, MeasuresOne, MeasuresOneOfTen}

-- after a choice that isn't measured the count is one more, and no multiple of ten
pub record GoesOn (count next : ℕ) : Type 0 where
  pub up : next ≡ count + 1
  pub apart : next % 10 ≢ 0

pub interval-most : (winner_time loser_time : ℕ) → interval_of winner_time loser_time ≤ 3200
interval-most winner_time loser_time =
    let shift : min (loser_time / max winner_time 1 - 1) 5 ≤ 5 = omega arith in
    let small : 2 ^ min (loser_time / max winner_time 1 - 1) 5 ≤ 2 ^ 5 = pow_mono shift in
    omega arith

-- below the interval the count isn't stopped
pub below-interval : (interval count : ℕ) → interval ≤ 3200
    → nat_le interval (counted count) ≡ false → counted count ≡ count + 1
below-interval interval count most test = grind (arith, nat_tests)

pub tenth-or : (tenth : Bool) (count : ℕ) → (counted count % 10 == 0) ≡ tenth
    → counted count ≡ count + 1 → (tenth ≡ true) ⊎ GoesOn count (counted count)
tenth-or true count test up = inl refl
tenth-or false count test up = inr (record { up = up; apart = grind (arith, nat_tests) })

pub due-or : {P : Type 0} (due : Bool) (probed preferred : P) (interval count : ℕ) → interval ≤ 3200
    → nat_le interval (counted count) ≡ due
    → ((cond {A = P × Bool} due (probed, true) (preferred, counted count % 10 == 0)).1 ≡ true)
    ⊎ GoesOn count (cond due 0 (counted count))
due-or true probed preferred interval count most test = inl refl
due-or false probed preferred interval count most test =
    tenth-or (counted count % 10 == 0) count refl (below-interval interval count most test)

pub arbitrated-goes_on : {P : Type 0} (contest : Contest P) (count : ℕ)
    → ((arbitrated contest count).1 ≡ true) ⊎ GoesOn count (count_after contest count)
arbitrated-goes_on contest count =
    due-or (is_due contest count) (cond contest.probe contest.loser contest.preferred)
    contest.preferred (interval_of contest.winner_time contest.loser_time) count
    (interval-most contest.winner_time contest.loser_time) refl

pub run-goes_on : (parallel serial : Option ℕ) (count parallelism : ℕ)
    → ((run_answer parallel serial count parallelism).1 ≡ true)
    ⊎ GoesOn count (run_count_after parallel serial count parallelism)
run-goes_on None serial count parallelism = inl refl
run-goes_on (Some parallel) serial count parallelism =
    arbitrated-goes_on (run_contest parallel serial parallelism) count

-- none of the counts that follow one, that many of them, is a multiple of ten
abbrev pub SkipsTens : ℕ → ℕ → Type 0
SkipsTens count choices = (j : ℕ) → 0 < j → j ≤ choices → (count + j) % 10 ≢ 0

pub record Unmeasured (recent history : RunHistory) : Type 0 where
  pub count : run_count (recent ++ history) ≡ run_count history + choices_of recent
  pub skips : SkipsTens (run_count history) (choices_of recent)

pub skips-more : (count choices next : ℕ) → SkipsTens count choices → GoesOn (count + choices) next
    → SkipsTens count (choices + 1)
skips-more count choices next skips goes = λ j positive most. elim (cases_lt choices j) [
  | inr before ↦ skips j positive before
  | inl after ↦ (let last : count + j ≡ next = omega arith in rw last goes.apart)
]

pub longer : (parallelism : ℕ) (recent history : RunHistory) → Unmeasured recent history
    → GoesOn (run_count (recent ++ history)) (run_count (Chosen parallelism ∷ recent ++ history))
    → Unmeasured (Chosen parallelism ∷ recent) history
longer parallelism recent history unmeasured goes =
    let next : GoesOn (run_count history + choices_of recent)
    (run_count (Chosen parallelism ∷ recent ++ history)) = rw (← unmeasured.count) goes in
    record {
      count = omega arith;
      skips = skips-more (run_count history) (choices_of recent) _ unmeasured.skips next;
    }

pub measures-or : (recent history : RunHistory) → MeasuresOne recent history
    ⊎ Unmeasured recent history
measures-or [] history =
    inr (record { count = omega arith; skips = λ j positive most. absurd (omega arith) })
measures-or (Sampled _ _ ∷ recent) history = elim (measures-or recent history) [
  | inl measured ↦ inl measured
  | inr unmeasured ↦ inr (record { count = unmeasured.count; skips = unmeasured.skips })
]
measures-or (Chosen parallelism ∷ recent) history = elim (measures-or recent history) [
  | inl measured ↦ inl (inr measured)
  | inr unmeasured ↦ elim (run-goes_on (run_estimate Parallel (recent ++ history))
      (run_estimate Serial (recent ++ history)) (run_count (recent ++ history)) parallelism) [
        | inl measured ↦ inl (inl measured)
        | inr goes ↦ inr (longer parallelism recent history unmeasured goes)
      ]
]

pub tens-come : (count choices : ℕ) → 10 ≤ choices → SkipsTens count choices → ⊥
tens-come count choices many skips =
    skips (10 - count % 10) (omega arith) (omega arith) (omega arith)

pub measures-one_of_ten : MeasuresOneOfTen
measures-one_of_ten = λ recent history many. elim (measures-or recent history) [
  | inl measured ↦ measured
  | inr unmeasured ↦ absurd (tens-come (run_count history)
      (choices_of recent) many unmeasured.skips)
]
