-- A root of the next level is one of the level, and so one of the leaves.
use Rattle.commonware_parallel.proofs.{rules, vec_len, next_shorter, root_below, root_of_last}
use Rattle.commonware_parallel.proofs.merkle.root.Goals as goal

pub levels-smaller : goal.levels-smaller
levels-smaller g c =
    next_shorter (λ a b n. g.F.Fn.post c.args.combine (a, (b, tt)) n) c.levels.level.items
    c.in_ok-level.level.items (search rules) (search rules)

pub levels-preserved : goal.levels-preserved
levels-preserved g c = λ root h. c.levels.invariant root
    (root_below (λ a b n. g.F.Fn.post c.args.combine (a, (b, tt)) n) c.levels.level.items
    c.in_ok-level.level.items root (search rules) (search rules) h)

pub returns-clause-root : goal.returns-clause-root
returns-clause-root g c = c.levels.invariant c.pop.result
    (root_of_last (λ a b n. g.F.Fn.post c.args.combine (a, (b, tt)) n)
    c.levels.level.items c.pop.new.self.items c.pop.result (vec_len c.levels.level)
    (vec_len c.pop.new.self) (search rules) (search rules) c.pop.ensures.items
    c.pop.ensures.cases)
