-- The ranges so far stand in the line.
use Rattle.shapes_command.proofs.{◌≡◌, ◌++◌, map, take, string_bytes, spaced, range_text}
use Rattle.shapes_command.proofs.answer.push_ranges.Given as goal

abbrev pub invariant-loop-index : goal.invariant-loop-index
invariant-loop-index l = string_bytes l.line ≡ string_bytes l.initial.line ++ spaced
    (map range_text (take l.index l.ranges))
