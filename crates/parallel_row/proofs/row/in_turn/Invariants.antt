-- the parts from the turn's on are as they were, those before it changed
use Rattle.parallel_row.proofs.{◌≡◌, ℕ, ◌<◌, ◌≤◌, length, part_of_cut, ChangesAt}
use Rattle.parallel_row.proofs.row.in_turn.Given as goal

abbrev pub invariant-loop-number : goal.invariant-loop-number
invariant-loop-number g l =
    let place = g.C.Cuts.place l.cuts in
    (length l.items ≡ length l.initial.items)
    × ((m : ℕ) → l.number ≤ m
    → part_of_cut place l.begin m l.items ≡ part_of_cut place l.begin m l.initial.items)
    × ((m : ℕ) → l.begin ≤ m → m < l.number → ChangesAt g.F.Fn l.op (place m)
    (part_of_cut place l.begin m l.initial.items) (part_of_cut place l.begin m l.items))
