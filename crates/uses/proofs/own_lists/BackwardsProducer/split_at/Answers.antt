-- The slice's end comes first, and then its beginning.
use Rattle.std.proofs.Common.{◌-◌, ◌∙◌, ◌++◌, length, drop, reverse, ap, subst}
use Rattle.std.specs.List.{Contains}
use Rattle.uses.proofs.Reversed.{the_rest, reversed_parts, in_back, in_front}
use Rattle.uses.proofs.own_lists.BackwardsProducer.split_at.Goals as goal

pub returns-clause-joined : goal.returns-clause-joined
returns-clause-joined g c xs ys end start =
    let all = c.args.self.slice.now in
    let at = length all - c.args.index in
    ap (λ l. l ++ ys) (end ∙ ap reverse (the_rest at all))
    ∙ ap (λ l. reverse (drop at all) ++ l) start ∙ reversed_parts at all

pub returns-clause-may_front : goal.returns-clause-may_front
returns-clause-may_front g c x within =
    let all = c.args.self.slice.now in
    let at = length all - c.args.index in
    in_back at all x (subst (λ l. Contains (reverse l) x) (the_rest at all) within)

pub returns-clause-may_back : goal.returns-clause-may_back
returns-clause-may_back g c x within =
    in_front (length c.args.self.slice.now - c.args.index) c.args.self.slice.now x within
