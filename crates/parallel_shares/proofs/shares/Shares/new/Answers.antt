-- The words that a plan opens with, and the first view, keep the rule.
use Rattle.parallel_shares.proofs.{◌≡◌, ◌*◌, ◌∙◌, length, ap, arith, shares_of, opening_words, length_opening, few_shares, spaced, length_spaced, opens}
use Rattle.parallel_shares.proofs.shares.Shares.new.Goals.{In_ok-table}
use Rattle.parallel_shares.proofs.shares.Shares.new.Goals as goal

pub spaced_words-requires : goal.spaced_words-requires
spaced_words-requires c =
    let plan = c.new-plan.result in
    omega (
      arith,
      ap length (c.deref.ensures.value ∙ c.in_ok-words.ensures.words),
      length_opening plan (shares_of plan),
      few_shares plan c.new-plan.ensures.sound,
    )

pub of_words-requires : goal.of_words-requires
of_words-requires c =
    let plan = c.new-plan.result in (
      opening_words plan (shares_of plan),
      c.deref-2.ensures.value ∙ c.in_ok-all.ensures.words
          ∙ ap spaced (c.deref.ensures.value ∙ c.in_ok-words.ensures.words),
      opens plan c.new-plan.ensures.sound,
    )

-- there is a word for each share
words_count : (c : In_ok-table) → length c.in_ok-words.words.items ≡ shares_of c.new-plan.result
words_count c =
    let plan = c.new-plan.result in
    ap length c.in_ok-words.ensures.words ∙ length_opening plan (shares_of plan)

pub over-shares-requires-clause-words : goal.over-shares-requires-clause-words
over-shares-requires-clause-words c =
    c.in_ok-table.ensures.0 ∙ ap length (c.deref-2.ensures.value ∙ c.in_ok-all.ensures.words)
    ∙ length_spaced _ ∙ ap (λ n. n * 16) (ap length c.deref.ensures.value ∙ words_count c)

pub over-shares-requires-clause-room : goal.over-shares-requires-clause-room
over-shares-requires-clause-room c = (
  omega (arith, c.in_ok-last.ensures.len),
  omega (
    arith,
    c.in_ok-last.ensures.capacity,
    c.len.ensures,
    words_count c,
    c.in_ok-words.words.ok.0,
  ),
)
