-- The first unit begins before the cells end, and its cells end no later than the last one's.
use Rattle.parallel_shares.proofs.{◌≡◌, ap, sym, arith, mul-le, Sizes}
use Rattle.parallel_shares.proofs.machine.plan.Plan.cells_of.Goals as goal

pub returns-clause-in_order : goal.returns-clause-in_order
returns-clause-in_order c h =
    let p = c.self.inside in
    let e : c.args.self.now.units ≡ p.units = ap (λ (s : Sizes). s.units) (sym c.self.view_is) in
    omega (
      arith,
      c.self.invariant.units_begin c.args.start (omega arith),
      mul-le c.args.start p.unit c.args.stop p.unit h (omega arith),
    )
