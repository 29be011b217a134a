-- The last item of an odd number of them is in no pair.
use Rattle.parallel_bridge.proofs.{arith, ap, sym, ◌∙◌, pairs_of, no_odd, odd_pop}
use Rattle.parallel_bridge.proofs.pairs.Pairs.new.Goals as goal
use Rattle.parallel_bridge.proofs.pairs.Pairs.new.Goals.{then-len-eq1, else-len-eq1}

pub returns-clause-pairs : goal.returns-clause-pairs
returns-clause-pairs g c =
    let whole = c.args.items.ok.0 in let len = c.len.ensures in
    elim c.if-len-eq1.branch [
      | then-len-eq1 w ↦ let odd = w.if-len-eq1.true in
          ap (λ v. pairs_of v.items) w.items-is ∙ sym (odd_pop c.args.items.items
          w.pop-odd.new.self.items w.pop-odd.result w.pop-odd.ensures.items
          (w.pop-odd.ensures.variant.1 (omega (arith, whole, len, odd)))
          (omega (arith, whole, len, odd))).1
      | else-len-eq1 w ↦ ap (λ v. pairs_of v.items) w.items-is
    ]

pub returns-clause-odd : goal.returns-clause-odd
returns-clause-odd g c =
    let whole = c.args.items.ok.0 in let len = c.len.ensures in
    elim c.if-len-eq1.branch [
      | then-len-eq1 w ↦ let odd = w.if-len-eq1.true in
          w.odd-is ∙ sym (odd_pop c.args.items.items
          w.pop-odd.new.self.items w.pop-odd.result w.pop-odd.ensures.items
          (w.pop-odd.ensures.variant.1 (omega (arith, whole, len, odd)))
          (omega (arith, whole, len, odd))).0
      | else-len-eq1 w ↦ let even = w.if-len-eq1.false in
          w.odd-is ∙ sym (no_odd c.args.items.items (omega (arith, whole, len, even)))
    ]
