-- The seats so far, and what the first view has left.
use Rattle.parallel_shares.proofs.{◌≡◌, [], undealt, Dealt}
use Rattle.parallel_shares.proofs.shares.Shares.deal.Given as goal

abbrev pub invariant-loop-index : goal.invariant-loop-index
invariant-loop-index l = record {
  table : l.first.table_id ≡ l.self.table.shared.table_id;
  view : l.first.me ≡ (undealt l.self.plan l.index, []);
  seats : Dealt l.self l.index l.seats.items;
}
