-- the seats so far, and what the first one is left with
use Rattle.parallel_bridge.proofs.{newcomer, IsGateSeatOf, known, seats_of, stands_for, ◌≡◌, ◌+◌, All, [], vec_len}
use Rattle.std.specs.NonZero.{non_zero_usize_get}
use Rattle.parallel_bridge.proofs.gate.Gate.new.Given as goal

abbrev pub invariant-loop : goal.invariant-loop
invariant-loop l = record {
  of : seats_of l.gate ≡ non_zero_usize_get l.fn.seats;
  count : vec_len l.all ≡ l.counter;
  founder : IsGateSeatOf l.gate l.founder;
  left : stands_for l.founder + l.counter ≡ non_zero_usize_get l.fn.seats;
  silent : (known l.founder).told ≡ [];
  belong : All (IsGateSeatOf l.gate) l.all.items;
  fresh : All (λ seat. known seat ≡ newcomer 1) l.all.items;
}
