-- Which answer was begun where the writer failed.
use Rattle.shapes_command.proofs.{Result, Ok, Err, OnErr, rules, inr, in_range}
use Rattle.shapes_command.proofs.command.Goals as goal

pub line-requires-after_bounds : goal.line-requires-after_bounds
line-requires-after_bounds g c =
    λ lifetimes outlives. in_range c.args.words.now c.in-Some.request c.in-Some.ensures

on_err : {T E P : Type 0} (result : Result T E) → P → OnErr result P
on_err (Ok _) met = tt
on_err (Err _) met = met

-- What a failed write of the answer leaves.
pub returns-in_err-write_line-in-Ok-clause-unwritten :
    goal.returns-in_err-write_line-in-Ok-clause-unwritten
returns-in_err-write_line-in-Ok-clause-unwritten g c =
    let (text, answers, same) = c.in-Ok.ensures.line in
    let part = c.in_err-write_line-in-Ok.ensures.part in
    on_err _ (inr (
      c.as_bytes.result.now,
      (c.in-Some.request, text, c.in-Some.ensures, answers, search rules),
      part,
    ))

pub returns-in-Err-clause-refused : goal.returns-in-Err-clause-refused
returns-in-Err-clause-refused g c = search rules

pub returns-in-Err-clause-unwritten : goal.returns-in-Err-clause-unwritten
returns-in-Err-clause-unwritten g c = search rules

pub returns-in_ok-write_line-in-Ok-clause-answer : goal.returns-in_ok-write_line-in-Ok-clause-answer
returns-in_ok-write_line-in-Ok-clause-answer g c = search rules
