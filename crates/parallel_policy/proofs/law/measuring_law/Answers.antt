-- The law of measured choices.
use Rattle.parallel_policy.proofs.Measuring.{measures-one_of_ten}
use Rattle.parallel_policy.proofs.law.measuring_law.Goals as goal

pub returns : goal.returns
returns c = measures-one_of_ten
