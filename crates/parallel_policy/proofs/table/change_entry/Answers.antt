-- What the entry was, and what the change left.
use Rattle.std.proofs.Common.{rules, refl}
use Rattle.parallel_policy.proofs.table.change_entry.Goals as goal

pub returns-in-Some-clause-changed : goal.returns-in-Some-clause-changed
returns-in-Some-clause-changed g c = (
  c.in-Some.entry.now,
  c.change.new.arg2,
  rw (← c.in-Some.ensures.value) refl,
  search rules,
  search rules,
)

pub returns-clause-changed : goal.returns-clause-changed
returns-clause-changed g c = (
  c.default-entry.result,
  c.change-answer.new.arg2,
  rw (← c.in_default.ensures.value) c.default-entry.ensures,
  search rules,
  search rules,
)

pub returns-clause-others : goal.returns-clause-others
returns-clause-others g c = search rules
