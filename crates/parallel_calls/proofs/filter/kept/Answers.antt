-- The test was asked of the item.
use Rattle.std.proofs.Common.{refl}
use Rattle.std.proofs.lemmas.Fn.{says_at}
use Rattle.parallel_calls.proofs.filter.kept.Goals as goal

pub returns-then-test : goal.returns-then-test
returns-then-test g c = (refl, says_at g.F.Fn c.test.ensures c.if-test.true)

pub returns-else-test : goal.returns-else-test
returns-else-test g c = says_at g.F.Fn c.test.ensures c.if-test.false
