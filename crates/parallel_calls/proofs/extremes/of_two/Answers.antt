-- The test says which of two wins.
use Rattle.std.proofs.Common.{rules, ◌∙◌, refl}
use Rattle.std.proofs.lemmas.Fn.{says_at_two}
use Rattle.parallel_calls.proofs.Picks.{accepts_either, picks_earlier, picks_later}
use Rattle.parallel_calls.proofs.extremes.of_two.Goals as goal

pub compare-requires : goal.compare-requires
compare-requires g c = accepts_either (λ a b. goal.C-pre g c.args.compare.now a b) c.args.first
    c.args.second c.requires _ _ (search rules)

pub returns-then-wins-clause-picks : goal.returns-then-wins-clause-picks
returns-then-wins-clause-picks g c lt says = picks_later c.args.is_least lt _ _ c.in-Some.earlier
    c.in-Some-second.later c.is_lt.result c.wins.result c.in-Some.is c.in-Some-second.is
    (c.is_lt.ensures ∙ says c.in-Some-second.later c.in-Some.earlier c.compare.result
    (says_at_two g.C.Fn c.compare.ensures refl)) c.wins.ensures c.if-wins.true

pub returns-else-wins-clause-picks : goal.returns-else-wins-clause-picks
returns-else-wins-clause-picks g c lt says = picks_earlier c.args.is_least lt _ _ c.in-Some.earlier
    c.in-Some-second.later c.is_lt.result c.wins.result c.in-Some.is c.in-Some-second.is
    (c.is_lt.ensures ∙ says c.in-Some-second.later c.in-Some.earlier c.compare.result
    (says_at_two g.C.Fn c.compare.ensures refl)) c.wins.ensures c.if-wins.false
