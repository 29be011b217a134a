-- Each result is the square of its item.
use Rattle.std.proofs.Common.{rules, ◌≡◌, ◌*◌, ℕ, Result, Ok, map}
use Rattle.std.specs.declared.vec.Vec.{Vec}
use Rattle.std.specs.declared.alloc.Global.{Global}
use Rattle.parallel_fault.specs.declared.fault.Fault.{Fault}
use Rattle.parallel_bridge.proofs.OverLists.{fact_of_list}
use Rattle.uses.proofs.one_place.squares_and_sum.Goals as goal

pub returns-clause-squares : goal.returns-clause-squares
returns-clause-squares g c =
    let answer : Result (Vec ℕ Global) Fault = Ok c.in_ok-squares.squares in
    fact_of_list c.args.numbers.now (λ xs ys. ys.items ≡ map (λ (x : ℕ). x * x) xs) answer
    (c.in_ok-squares.ensures.plain (λ (x : ℕ). x * x) (λ x y k. search rules))
