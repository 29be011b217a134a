-- Orders by keys.
use Rattle.std.specs.Prelude.{Bool}
use Rattle.std.specs.Ordering.{is_lt}
use Rattle.std.specs.declared.cmp.Ordering.{Ordering}

-- whether the one's key is less than the other's
abbrev pub less_by : {X K : Type 0} → (K → K → Ordering) → (X → K) → X → X → Bool
less_by cmp key_of x y = is_lt (cmp (key_of x) (key_of y))
