-- The numbers so far stand in the line.
use Rattle.shapes_command.proofs.{◌≡◌, ◌++◌, map, take, string_bytes, decimal, spaced}
use Rattle.shapes_command.proofs.answer.push_numbers.Given as goal

abbrev pub invariant-loop-index : goal.invariant-loop-index
invariant-loop-index l = string_bytes l.line ≡ string_bytes l.initial.line ++ spaced
    (map decimal (take l.index l.numbers))
