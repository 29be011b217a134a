-- Each word adds its sixteen.
use Rattle.parallel_shares.proofs.{◌++◌, get_or, sym, ap, ◌∙◌, take_all, line_of, spaced, spaced_none, spaced_more}
use Rattle.parallel_shares.proofs.shares.lines.spaced_words.Goals as goal

pub loop-word-init : goal.loop-word-init
loop-word-init c = c.in_ok-all.ensures.items ∙ sym spaced_none

pub loop-word-preserved : goal.loop-word-preserved
loop-word-preserved c =
    let words = c.args.words.now in
    let i = c.loop-word.word-index in
    c.in_ok-extend_from_slice.ensures.items
    ∙ ap (λ xs. xs ++ line_of (get_or words i 0)) c.loop-word.invariant
    ∙ spaced_more words i c.loop-word-test.true

pub returns-clause-words : goal.returns-clause-words
returns-clause-words c =
    c.loop-word.invariant
    ∙ ap spaced (take_all c.loop-word.word-index c.args.words.now c.loop-word-test.false)
