-- The results in the places so far, and room for those of the places that are left.
use Rattle.std.proofs.Common.{◌≡◌, ◌+◌, ◌≤◌, length, vec_len}
use Rattle.std.specs.Prelude.{vec_capacity}
use Rattle.std.specs.List.{filter_map}
use Rattle.std.specs.Vec.Iter.{into_iter_items}
use Rattle.parallel_pool.specs.InRow.{answer_of}
use Rattle.parallel_pool.proofs.rayon.in_row.answers_of.Given as goal

abbrev pub invariant-loop-place : goal.invariant-loop-place
invariant-loop-place g l = (l.answers.items ≡ filter_map answer_of l.yielded)
    × (vec_len l.answers + length (into_iter_items l.place-iterator) ≤ vec_capacity l.answers)
