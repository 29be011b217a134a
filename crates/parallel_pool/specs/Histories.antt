-- Beginnings of a history, whatever it records.
use Rattle.std.specs.Prelude.{◌≡◌, ◌⊎◌, List, ◌++◌}

-- the history goes on from what was seen
abbrev pub Begins : {A : Type 0} → List A → List A → Type 0
Begins {A} log seen = (rest : List A) × (log ≡ seen ++ rest)

-- of two beginnings of one history, a seat has seen the longer
abbrev pub Longer : {A : Type 0} → List A → List A → List A → Type 0
Longer one other both = Begins both one × Begins both other × ((both ≡ one) ⊎ (both ≡ other))
