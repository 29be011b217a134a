-- What each part is to its old one, the whole is.
use Rattle.parallel_bridge.proofs.{◌≡◌, ◌*◌, length, min, refl, rules}
use Rattle.std.specs.Int.{div_ceil}
use Rattle.std.specs.List.Sorted.{IsPermutation, IsStableByClosure}
use Rattle.parallel_row.proofs.Chunks.{even_places, even_rises}
use Rattle.parallel_row.proofs.Parts.{seen_elsewhere}
use Rattle.parallel_row.proofs.Wholes.{rearranged_from_parts}
use Rattle.parallel_bridge.proofs.list.sort.sort_parts.Goals as goal

pub returns-clause-permutation : goal.returns-clause-permutation
returns-clause-permutation g c =
    let xs = c.args.items.now in
    let counted : c.div_ceil-count.result ≡ div_ceil (length xs) c.args.size = search rules in
    (rearranged_from_parts g.C.FnMut c.args.compare (λ n. min (n * c.args.size) (length xs))
    (even_rises c.args.size (length xs)) c.div_ceil-count.result xs c.parts_in_row.new.items
    (even_places c.args.size (length xs) _ c.requires.size counted) c.parts_in_row.ensures.0
    (λ n low high. let at = c.parts_in_row.ensures.1 n low high in
    seen_elsewhere (λ _ us vs. IsPermutation us vs
    × IsStableByClosure g.C.FnMut c.args.compare us vs) {i = n} refl at.argument_is at.left
    (search rules))).0

pub returns-clause-stable : goal.returns-clause-stable
returns-clause-stable g c =
    let xs = c.args.items.now in
    let counted : c.div_ceil-count.result ≡ div_ceil (length xs) c.args.size = search rules in
    (rearranged_from_parts g.C.FnMut c.args.compare (λ n. min (n * c.args.size) (length xs))
    (even_rises c.args.size (length xs)) c.div_ceil-count.result xs c.parts_in_row.new.items
    (even_places c.args.size (length xs) _ c.requires.size counted) c.parts_in_row.ensures.0
    (λ n low high. let at = c.parts_in_row.ensures.1 n low high in
    seen_elsewhere (λ _ us vs. IsPermutation us vs
    × IsStableByClosure g.C.FnMut c.args.compare us vs) {i = n} refl at.argument_is at.left
    (search rules))).1
