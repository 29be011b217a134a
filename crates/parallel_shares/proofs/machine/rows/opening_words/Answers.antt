-- Each share ends where the next begins, and no share runs past the units.
use Rattle.parallel_shares.proofs.{◌≡◌, ◌+◌, ◌++◌, ◌∷◌, [], ◌≤◌, suc, arith, add-one, ap, ◌∙◌, packed, opening_start, opening_words, within_units}
use Rattle.parallel_shares.proofs.machine.rows.opening_words.Goals as goal
use Rattle.parallel_shares.proofs.machine.rows.opening_words.Goals.{After-opening_size}

-- the end of a share is the start of the next, and within the units
end_fits : (c : After-opening_size) → c.loop-share.start + c.opening_size.result ≤ 65535
end_fits c =
    let sound = c.shares-shares.ensures.sound in
    omega (
      arith,
      sound.units_fit,
      c.loop-share.invariant.start,
      within_units c.args.plan.now sound (suc c.loop-share.share) (omega arith),
    )

pub overflow_add-end : goal.overflow_add-end
overflow_add-end c = omega (arith, end_fits c)

pub pack-requires : goal.pack-requires
pack-requires c =
    let e = end_fits (goal.at.pack-requires c).After-opening_size in
    record { start_fits = omega arith; end_fits = omega arith }

pub loop-share-preserved : goal.loop-share-preserved
loop-share-preserved c =
    let i = c.loop-share.invariant in
    let share = c.loop-share.share in
    let start : c.loop-share.start + c.opening_size.result ≡ opening_start c.args.plan.now
    (suc share) = omega (arith, i.start) in
    rw (add-one share) (record {
      start = start;
      words = c.in_ok-push.ensures.items ∙ ap (λ ws. ws ++ c.pack.result ∷ []) i.words
          ∙ ap (λ w. opening_words c.args.plan.now share ++ w ∷ [])
          (c.pack.ensures ∙ ap (λ a. packed a (c.loop-share.start + c.opening_size.result)) i.start
          ∙ ap (λ b. packed (opening_start c.args.plan.now share) b) start);
    })
