-- Which pick a rule gives a call, by a hash of the call's site and length.
use Rattle.std.specs.Prelude.{ℕ, ◌+◌, ◌*◌, ◌-◌, ◌%◌, List, [], ◌∷◌, ◌++◌, length}
use Rattle.parallel_policy.specs.declared.Site.{Site}
use Rattle.commonware_parallel.specs.declared.mocks.rule.Rule.{Rule}
use Rattle.commonware_parallel.specs.declared.mocks.rule.Rule.TheVariants.{Serial, Parallel, Seeded}

-- the hash with one value more
abbrev pub mixed_in : ℕ → ℕ → ℕ
mixed_in hash value = (hash * 16807 + value % 2147483647 + 1) % 2147483647

-- the hash with all the values more, one after another
abbrev pub mixed_all : ℕ → List ℕ → ℕ
mixed_all hash [] = hash
mixed_all hash (x ∷ xs) = mixed_all (mixed_in hash x) xs

-- The hash begins at 1. For each of the seed, the number of bytes of the file's name, those bytes,
-- the line, the column and the length, it is multiplied by 16807 and the value is added, each
-- reduced modulo 2147483647.
abbrev pub mix_of : ℕ → Site → ℕ → ℕ
mix_of seed site len =
    mixed_all 1
    (seed ∷ length site.file.now ∷ (site.file.now ++ site.line ∷ site.column ∷ len ∷ []))

-- the first option, the last one, or the one that the hash says, by the number of options before it
abbrev pub pick_of : Rule → Site → ℕ → ℕ → ℕ
pick_of Serial site len options = 0
pick_of Parallel site len options = options - 1
pick_of (Seeded seed) site len options = mix_of seed site len % options
