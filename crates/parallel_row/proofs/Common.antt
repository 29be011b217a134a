-- The names of std and of `specs/` that proofs here cite, passed on from one place. Declares
-- nothing.
pub use Rattle.parallel_row.specs.Cut.{AcceptsCut, ChangesCut, Rises, part_of_cut, place_in}
pub use Rattle.std.proofs.Common.{List, [], ap, arith, div-add-mod', drop, get_or, get_or-drop, get_or-take, inl, inr, length, length-append, length-drop, length-take, min, mul-le-mul_right, one-mul, refl, rules, set, subst, suc, sym, take, zero, ℕ, ◌%◌, ◌*◌, ◌++◌, ◌+◌, ◌-◌, ◌/◌, ◌<◌, ◌^◌, ◌∙◌, ◌∷◌, ◌≡◌, ◌≢◌, ◌≤◌}
pub use Rattle.std.proofs.Math.Nat.{add-mul, zero-mul}
pub use Rattle.std.proofs.Math.Seq.{drop-append-add}
pub use Rattle.std.proofs.lemmas.Bool.{cases_lt}
pub use Rattle.std.proofs.lemmas.Grind.{div_ceil_times}
pub use Rattle.std.proofs.lemmas.List.{drop-append-le, get_or-set_other, get_or-set_same, get_or_default, take-append-le, take_all}
pub use Rattle.std.proofs.lemmas.Nat.{mod-mul-add, mod_below}
pub use Rattle.std.specs.Fork.{AcceptsAt, AcceptsChunksMut, ChangesAt, IsChunk, slice_chunk}
pub use Rattle.std.specs.Int.{div_ceil}
pub use Rattle.std.specs.declared.ops.Range.{Range}
