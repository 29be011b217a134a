-- The table was closed with a seat that has all that the seats had.
use Rattle.parallel_shares.proofs.{◌≡◌, ◌∙◌, sym, subst, arith, State, View, some, get_elem?, IsSharingOf, IsPartition, AllEmpty, few_shares, last_state, partition, empty, each_once, opening_stands}
use Rattle.parallel_shares.proofs.shares.Shares.close.Goals.{After-final_words-words}
use Rattle.parallel_shares.proofs.shares.Shares.close.Goals as goal

pub final_words-words-requires-clause-few : goal.final_words-words-requires-clause-few
final_words-words-requires-clause-few c =
    omega (arith, c.shares-count.ensures.shares, few_shares c.args.self.plan c.args.self.sound)

-- the table at the end, with the words that were read
at_the_end : (c : After-final_words-words) → (s : State (Unit {0}) View)
    × IsSharingOf c.args.self.plan s
    × (get_elem? s.views c.gather-all.result.id ≡ some c.gather-all.result.me.0)
    × (c.final_words-words.result.items ≡ s.words)
at_the_end c =
    let shares = c.args.self in
    let count = c.shares-count.ensures.shares in
    let words = c.final_words-words in
    last_state shares.table.shared.key shares.plan shares.key c.gather-all.result.id
    c.gather-all.result.me.0 _ _ words.result.items c.close_with-closed.ensures.values.2
    (words.ensures.length ∙ count)
    (λ share h. words.ensures.each share (omega (arith, h, count)))

pub returns-clause-partition : goal.returns-clause-partition
returns-clause-partition c =
    let last = at_the_end (goal.at.returns-clause-partition c).After-final_words-words in
    subst (λ ws. IsPartition c.args.self.plan ws c.args.seats.items) (sym last.3)
    (partition c.args.self c.args.seats.items c.requires last.0 last.1 c.gather-all.result.id
    c.gather-all.result.me.0 last.2 c.gather-all.ensures.view)

pub returns-clause-empty : goal.returns-clause-empty
returns-clause-empty c done =
    let last = at_the_end (goal.at.returns-clause-empty c).After-final_words-words in
    subst AllEmpty (sym last.3)
    (empty c.args.self c.args.seats.items c.requires last.0 last.1 c.gather-all.result.id
    c.gather-all.result.me.0 last.2 c.gather-all.ensures.view done)

pub returns-clause-each_once : goal.returns-clause-each_once
returns-clause-each_once c done =
    let last = at_the_end (goal.at.returns-clause-each_once c).After-final_words-words in
    each_once c.args.self c.args.seats.items c.requires last.0 last.1 c.gather-all.result.id
    c.gather-all.result.me.0 last.2 c.gather-all.ensures.view done

pub returns-clause-opening : goal.returns-clause-opening
returns-clause-opening c none_of =
    let last = at_the_end (goal.at.returns-clause-opening c).After-final_words-words in
    last.3
    ∙ opening_stands c.args.self c.args.seats.items c.requires last.0 last.1
    c.gather-all.result.id c.gather-all.result.me.0 last.2 c.gather-all.ensures.view none_of
