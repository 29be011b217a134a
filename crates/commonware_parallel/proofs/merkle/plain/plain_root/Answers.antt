-- A root of the next level is one of the level, and so one of the leaves.
use Rattle.commonware_parallel.proofs.{rules, vec_len, level_of_vec, next_shorter, root_below, root_of_last}
use Rattle.commonware_parallel.proofs.merkle.plain.plain_root.Goals as goal

pub levels-smaller : goal.levels-smaller
levels-smaller g c =
    let combine = goal.F-post g c.args.combine.now in
    next_shorter combine c.levels.level.items c.in_ok-level.level.items
    (level_of_vec _ combine c.levels.level.items c.in_ok-level.level.items c.into_iter.result
    (λ x y k. search rules) (search rules) (search rules) c.in_ok-level.ensures.level) (search rules)

pub levels-preserved : goal.levels-preserved
levels-preserved g c = λ root h.
    let combine = goal.F-post g c.args.combine.now in
    c.levels.invariant root
    (root_below combine c.levels.level.items c.in_ok-level.level.items root (search rules)
    (level_of_vec _ combine c.levels.level.items c.in_ok-level.level.items c.into_iter.result
    (λ x y k. search rules) (search rules) (search rules) c.in_ok-level.ensures.level) h)

pub returns-clause-root : goal.returns-clause-root
returns-clause-root g c = c.levels.invariant c.pop.result
    (root_of_last (λ a b n. g.F.Fn.post c.args.combine.now (a, (b, tt)) n)
    c.levels.level.items c.pop.new.self.items c.pop.result (vec_len c.levels.level)
    (vec_len c.pop.new.self) (search rules) (search rules) c.pop.ensures.items
    c.pop.ensures.cases)
