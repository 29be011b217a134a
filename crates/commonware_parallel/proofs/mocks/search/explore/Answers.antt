-- Each run after the serial one agrees with it, or is told.
use Rattle.commonware_parallel.proofs.{rules, ◌∷◌, [], refl, Bool, Bor, Explorer, Parallel, Seeded, one_agrees, serial_alone, told}
use Rattle.std.specs.Fn.{Called}
use Rattle.commonware_parallel.proofs.mocks.search.explore.Given.{Over}
use Rattle.commonware_parallel.proofs.mocks.search.explore.Goals as goal

-- a run of the closure, and equality of outputs
abbrev step : (g : Over) → g.row.F.Denot → Bor Explorer → g.row.R.Denot → g.row.F.Denot → Type 0
step g f e r h = Called g.F.FnMut f (e, tt) r h

abbrev eq : (g : Over) → g.row.R.Denot → g.row.R.Denot → Bool
eq g a b = g.R.PartialEq.eq a b

pub returns-in_err-compare : goal.returns-in_err-compare
returns-in_err-compare g c =
    let e = c.in_ok-explorer.ensures.explorer in
    let serial = serial_alone (step g) (eq g) c.args.run c.run-serial.new.self c.run-serial.result
    (_, (search rules, e.1, e.2, e.3), c.run-serial.ensures) in
    told _ Parallel (Seeded 0 ∷ Seeded 1 ∷ Seeded 2 ∷ Seeded 3 ∷ []) _ _ serial refl
    c.in_err-compare.ensures.compares c.from_residual-in_err-compare.ensures.1

pub returns-in_err-compare-2 : goal.returns-in_err-compare-2
returns-in_err-compare-2 g c =
    let e = c.in_ok-explorer.ensures.explorer in
    let serial = serial_alone (step g) (eq g) c.args.run c.run-serial.new.self c.run-serial.result
    (_, (search rules, e.1, e.2, e.3), c.run-serial.ensures) in
    let first = one_agrees _ Parallel serial c.in_ok-compare.ensures.compares in
    told _ (Seeded 0) (Seeded 1 ∷ Seeded 2 ∷ Seeded 3 ∷ []) _ _ first refl
    c.in_err-compare-2.ensures.compares c.from_residual-in_err-compare-2.ensures.1

pub returns-in_err-compare-3 : goal.returns-in_err-compare-3
returns-in_err-compare-3 g c =
    let e = c.in_ok-explorer.ensures.explorer in
    let serial = serial_alone (step g) (eq g) c.args.run c.run-serial.new.self c.run-serial.result
    (_, (search rules, e.1, e.2, e.3), c.run-serial.ensures) in
    let first = one_agrees _ Parallel serial c.in_ok-compare.ensures.compares in
    let second = one_agrees _ (Seeded 0) first c.in_ok-compare-2.ensures.compares in
    told _ (Seeded 1) (Seeded 2 ∷ Seeded 3 ∷ []) _ _ second refl
    c.in_err-compare-3.ensures.compares c.from_residual-in_err-compare-3.ensures.1

pub returns-in_err-compare-4 : goal.returns-in_err-compare-4
returns-in_err-compare-4 g c =
    let e = c.in_ok-explorer.ensures.explorer in
    let serial = serial_alone (step g) (eq g) c.args.run c.run-serial.new.self c.run-serial.result
    (_, (search rules, e.1, e.2, e.3), c.run-serial.ensures) in
    let first = one_agrees _ Parallel serial c.in_ok-compare.ensures.compares in
    let second = one_agrees _ (Seeded 0) first c.in_ok-compare-2.ensures.compares in
    let third = one_agrees _ (Seeded 1) second c.in_ok-compare-3.ensures.compares in
    told _ (Seeded 2) (Seeded 3 ∷ []) _ _ third refl
    c.in_err-compare-4.ensures.compares c.from_residual-in_err-compare-4.ensures.1

pub returns-in_err-compare-5 : goal.returns-in_err-compare-5
returns-in_err-compare-5 g c =
    let e = c.in_ok-explorer.ensures.explorer in
    let serial = serial_alone (step g) (eq g) c.args.run c.run-serial.new.self c.run-serial.result
    (_, (search rules, e.1, e.2, e.3), c.run-serial.ensures) in
    let first = one_agrees _ Parallel serial c.in_ok-compare.ensures.compares in
    let second = one_agrees _ (Seeded 0) first c.in_ok-compare-2.ensures.compares in
    let third = one_agrees _ (Seeded 1) second c.in_ok-compare-3.ensures.compares in
    let fourth = one_agrees _ (Seeded 2) third c.in_ok-compare-4.ensures.compares in
    told _ (Seeded 3) ([]) _ _ fourth refl
    c.in_err-compare-5.ensures.compares c.from_residual-in_err-compare-5.ensures.1

pub returns : goal.returns
returns g c =
    let e = c.in_ok-explorer.ensures.explorer in
    let serial = serial_alone (step g) (eq g) c.args.run c.run-serial.new.self c.run-serial.result
    (_, (search rules, e.1, e.2, e.3), c.run-serial.ensures) in
    let first = one_agrees _ Parallel serial c.in_ok-compare.ensures.compares in
    let second = one_agrees _ (Seeded 0) first c.in_ok-compare-2.ensures.compares in
    let third = one_agrees _ (Seeded 1) second c.in_ok-compare-3.ensures.compares in
    let fourth = one_agrees _ (Seeded 2) third c.in_ok-compare-4.ensures.compares in
    let fifth = one_agrees _ (Seeded 3) fourth c.in_ok-compare-5.ensures.compares in
    (fifth.behind, c.compare-5.new.run, fifth.first, fifth.agree)
