-- One more part has changed.
use Rattle.parallel_row.proofs.{◌≡◌, ◌∙◌, inl, inr, arith, refl, subst, sym, cases_lt, part_of_cut, seen_elsewhere, ChangesAt}
use Rattle.parallel_row.proofs.row.in_turn.Goals as goal

pub loop-number-preserved : goal.loop-number-preserved
loop-number-preserved g c =
    let place = g.C.Cuts.place c.args.cuts.now in
    let begin = c.args.begin in
    let number = c.loop-number.number in
    let xs = c.args.items.now in
    let zs = c.at_part.new.items in
    let R = ChangesAt g.F.Fn c.args.op.now in
    let was = c.loop-number.invariant in
    let others = c.at_part.ensures.others in (
      c.at_part.ensures.len ∙ was.0,
      λ m low. others m (omega (arith, low)) (λ (e : m ≡ number). omega (arith, e, low))
          ∙ was.1 m (omega (arith, low)),
      λ m low high. elim (cases_lt m number)
          as (λ _. R (place m) (part_of_cut place begin m xs) (part_of_cut place begin m zs)) [
            | inl less ↦
                subst (R (place m) (part_of_cut place begin m xs))
                (sym (others m low (λ (e : m ≡ number). omega (arith, e, less))))
                (was.2 m low less)
            | inr more ↦
                let is : number ≡ m = omega (arith, high, more) in
                subst (λ k. R (place k) (part_of_cut place begin k xs)
                (part_of_cut place begin k zs)) is
                (seen_elsewhere R refl (was.1 number (omega arith)) refl c.at_part.ensures.here)
          ],
    )

pub returns : goal.returns
returns g c = (
  c.loop-number.invariant.0,
  λ n low high. c.loop-number.invariant.2 n low (omega (arith, high)),
)
