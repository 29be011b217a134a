-- the items from the turn's on are as they were, those before it changed
use Rattle.parallel_row.proofs.{◌≡◌, ℕ, ◌+◌, ◌<◌, ◌≤◌, get_or, ChangesAt}
use Rattle.parallel_row.proofs.row.items_from.Given as goal

abbrev pub invariant-loop-k : goal.invariant-loop-k
invariant-loop-k g l =
    ((j : ℕ) (d : g.row.T.Denot) → l.k ≤ j → get_or l.items j d ≡ get_or l.initial.items j d)
    × ((j : ℕ) (d : g.row.T.Denot) → j < l.k
    → ChangesAt g.F.Fn l.op (l.from + j) (get_or l.initial.items j d) (get_or l.items j d))
