-- For how many threads a pool is planned.
use Rattle.std.specs.Prelude.{◌≡◌, ℕ, ◌<◌, ◌^◌, ◌==◌, List, Option, None, Some, MatchOption, if◌then◌else◌, min}
use Rattle.std.specs.Borrow.{Bor}
use Rattle.std.specs.NonZero.{non_zero_usize_get}
use Rattle.std.specs.Str.Parse.{IsNumeral, digits_value, without_leading_plus}
use Rattle.parallel_pool.specs.declared.rayon.pool_plan.PoolPlan.{PoolPlan}

-- the text writes a number of 64 bits: decimal digits, before which a plus may stand
abbrev pub IsNumberText : List ℕ → Type 0
IsNumberText text = IsNumeral 10 (without_leading_plus text)
    × (digits_value 10 (without_leading_plus text) < 2 ^ 64)

-- the number that a text writes, where it writes one
abbrev pub Writes : List ℕ → Option ℕ → Type 0
Writes text number = MatchOption number (¬ (IsNumberText text))
    (λ n. IsNumberText text × (n ≡ digits_value 10 (without_leading_plus text)))

-- by the second text: a number above 0, or else the machine's
abbrev pub by_cpus : Option ℕ → ℕ → ℕ
by_cpus None machine = machine
by_cpus (Some n) machine = if n == 0 then machine else n

-- by both texts: the first one's number, where 0 stands for the machine's; without one, by the
-- second
abbrev pub by_texts : Option ℕ → Option ℕ → ℕ → ℕ
by_texts None cpus machine = by_cpus cpus machine
by_texts (Some n) cpus machine = if n == 0 then machine else n

-- this holds of the number by two texts, either of which may be missing, and the machine's
abbrev pub OfTexts : Option (Bor (List ℕ)) → Option (Bor (List ℕ)) → ℕ → (ℕ → Type 0) → Type 0
OfTexts num_threads num_cpus machine P = (threads : Option ℕ) × (cpus : Option ℕ)
    × MatchOption num_threads (threads ≡ None) (λ text. Writes text.now threads)
    × MatchOption num_cpus (cpus ≡ None) (λ text. Writes text.now cpus)
    × P (by_texts threads cpus machine)

-- what a number is that may be missing, and what stands in for it
abbrev pub number_or : {A : Type 0} → ℕ → (A → ℕ) → Option A → ℕ
number_or other number None = other
number_or other number (Some a) = number a

-- For how many threads a pool is planned: the number set, if above 0; else the first text's number,
-- where 0 stands for the machine's; without one, the second text's if above 0; else the machine's,
-- or 1. In each case at most 65535.
abbrev pub IsPlanned : PoolPlan → ℕ → Type 0
IsPlanned plan planned =
    (0 < plan.num_threads → planned ≡ min plan.num_threads 65535)
    × (plan.num_threads ≡ 0 → (threads : Option ℕ) × (cpus : Option ℕ)
    × MatchOption plan.environment.num_threads (threads ≡ None)
    (λ text. Writes text.bytes.items threads)
    × MatchOption plan.environment.num_cpus (cpus ≡ None) (λ text. Writes text.bytes.items cpus)
    × (planned ≡ min (by_texts threads cpus
    (number_or 1 non_zero_usize_get plan.environment.machine)) 65535))
