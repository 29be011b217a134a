-- The numbers that are computed are those of the plan, and those are sound.
use Rattle.parallel_shares.proofs.{rules, ◌≡◌, ◌*◌, subst, sym, arith, non_zero_usize_get, Work, Sizes, sizes_of, IsSound, sizes_sound}
use Rattle.parallel_shares.proofs.machine.plan.Plan.new.Goals as goal

-- what the plan is made for
abbrev work_of : goal.Joined-whole-3 → Work
work_of c =
    record {
      rows = c.args.rows;
      len = c.args.len;
      tile_cost = non_zero_usize_get c.args.tile_cost;
      workers = non_zero_usize_get c.args.workers;
      whole = c.args.whole;
    }

-- the numbers that are computed
abbrev made : goal.Joined-whole-3 → Sizes
made c =
    record {
      cells = c.args.rows * c.args.len;
      unit = c.if-whole.unit;
      claim = c.if-whole-2.claim;
      units = c.div_ceil-units.result;
      workers = c.min.result;
      split_cost = c.if-whole-3.result;
      whole = c.args.whole;
    }

same : (c : goal.Joined-whole-3) → made c ≡ sizes_of (work_of c)
same c = search rules

sound : (c : goal.Joined-whole-3) → IsSound (made c)
sound c =
    subst IsSound (sym (same c)) (sizes_sound (work_of c) c.requires.some_rows c.requires.some_cells
    (omega arith) (omega arith) c.requires.cells_fit c.requires.cut_pays)

pub invariant_of-result : goal.invariant_of-result
invariant_of-result c = sound c

pub returns-clause-sound : goal.returns-clause-sound
returns-clause-sound c = sound c

pub returns-clause-sizes : goal.returns-clause-sizes
returns-clause-sizes c = same c
