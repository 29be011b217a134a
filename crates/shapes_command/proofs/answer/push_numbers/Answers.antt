-- One number more is written, the first with no space before it.
use Rattle.shapes_command.proofs.{arith, ap, string_bytes, decimal, first_written, next_written}
use Rattle.shapes_command.proofs.answer.push_numbers.Goals as goal
use Rattle.shapes_command.proofs.answer.push_numbers.Goals.{then-index-eq0, else-index-eq0}

pub loop-index-preserved : goal.loop-index-preserved
loop-index-preserved c =
    let start = string_bytes c.args.line.now in
    let line = string_bytes c.loop-index.line in
    let new = string_bytes c.write.new.self in
    let space = c.if-index-eq0.space.now in
    elim c.if-index-eq0.branch [
      | then-index-eq0 w ↦ first_written decimal c.args.numbers.now c.loop-index.index 0 start line
          new space (omega arith) w.if-index-eq0.true
          (ap (λ s. s.now) w.space-is) c.loop-index.invariant c.in_ok-write.ensures.bytes
      | else-index-eq0 w ↦ next_written decimal c.args.numbers.now c.loop-index.index 0 start line
          new space (omega arith) w.if-index-eq0.false
          (ap (λ s. s.now) w.space-is) c.loop-index.invariant c.in_ok-write.ensures.bytes
    ]
