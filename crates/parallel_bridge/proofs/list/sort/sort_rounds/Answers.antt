-- A round's parts are a permutation of what was a permutation, and so is the whole that is sorted.
use Rattle.std.proofs.Common.{rules}
use Rattle.std.proofs.lemmas.List.Sorted.{IsPermutation-trans}
use Rattle.parallel_row.proofs.Wholes.{stable_then}
use Rattle.parallel_bridge.proofs.list.sort.sort_rounds.Goals as goal

pub loop-size-preserved : goal.loop-size-preserved
loop-size-preserved g c = (
  search rules,
  IsPermutation-trans _ _ _ c.loop-size.invariant.1 c.sort_parts.ensures.permutation,
  stable_then g.C.FnMut c.args.compare _ _ _ c.loop-size.invariant.2 c.sort_parts.ensures.stable,
)

pub returns-clause-permutation : goal.returns-clause-permutation
returns-clause-permutation g c =
    IsPermutation-trans _ _ _ c.loop-size.invariant.1 c.sort_by.ensures.permutation

pub returns-clause-stable : goal.returns-clause-stable
returns-clause-stable g c =
    stable_then g.C.FnMut c.args.compare _ _ _ c.loop-size.invariant.2 c.sort_by.ensures.stable
