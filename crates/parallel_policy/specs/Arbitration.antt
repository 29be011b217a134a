-- One choice between a path that is preferred and one that loses.
use Rattle.std.specs.Prelude.{◌≢◌, ℕ, ◌+◌, ◌-◌, ◌*◌, ◌/◌, ◌%◌, ◌^◌, ◌<◌, min, max, Bool, true, cond, nat_le, ◌==◌}

-- two paths, the time of each, and whether the one that loses may be probed
pub record Contest (P : Type 0) : Type 0 where
  pub preferred : P
  pub loser : P
  pub winner_time : ℕ
  pub loser_time : ℕ
  pub probe : Bool

-- the contest of these paths, by these times
abbrev pub contest_of : {P : Type 0} → P → P → ℕ → ℕ → Bool → Contest P
contest_of preferred loser winner_time loser_time probe =
    record {
      preferred = preferred;
      loser = loser;
      winner_time = winner_time;
      loser_time = loser_time;
      probe = probe;
    }

-- how often the interval between two probes is doubled: once for each time over that the loser is
-- slower, five times at most
abbrev pub doublings_of : ℕ → ℕ → ℕ
doublings_of winner_time loser_time = min (loser_time / max winner_time 1 - 1) 5

-- how many choices lie between two probes: 100, so often doubled
abbrev pub interval_of : ℕ → ℕ → ℕ
interval_of winner_time loser_time = 100 * 2 ^ doublings_of winner_time loser_time

-- a count that goes up by one and stops at the greatest u32
abbrev pub counted : ℕ → ℕ
counted count = min (count + 1) 4294967295

-- whether a choice reaches the interval
abbrev pub is_due : {P : Type 0} → Contest P → ℕ → Bool
is_due contest count = nat_le (interval_of contest.winner_time contest.loser_time) (counted count)

-- The path that is chosen, and whether it is measured. When the count reaches the interval, the
-- loser if it may be probed, else the preferred path, measured in either case. Otherwise the
-- preferred path, measured exactly when the count is a multiple of 10.
abbrev pub arbitrated : {P : Type 0} → Contest P → ℕ → P × Bool
arbitrated contest count = cond (is_due contest count)
    (cond contest.probe contest.loser contest.preferred, true)
    (contest.preferred, counted count % 10 == 0)

-- the count after the choice: 0 at the interval, else one more
abbrev pub count_after : {P : Type 0} → Contest P → ℕ → ℕ
count_after contest count = cond (is_due contest count) 0 (counted count)

-- what each count is: under 3200, or 4294967295
abbrev pub IsCount : ℕ → Type 0
IsCount count = count ≢ 4294967295 → count < 3200
