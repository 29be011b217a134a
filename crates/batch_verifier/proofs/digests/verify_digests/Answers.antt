-- The first pair whose digest isn't its message's is the first item that fails.
use Rattle.parallel_bridge.proofs.OverLists.{if_err, if_ok}
use Rattle.batch_verifier.proofs.Verdicts.{digests_compared}
use Rattle.batch_verifier.proofs.digests.verify_digests.Goals as goal

pub returns-clause-each : goal.returns-clause-each
returns-clause-each g c = if_ok _ _ c.try_map_collect_vec.result
    (digests_compared c.args.messages c.args.digests c.new.result.pairs.right
    c.new.result.pairs.left.start c.new.result.pairs.left.end c.new.ensures.list
    c.new.ensures.start c.new.ensures.end c.try_map_collect_vec.result
    c.try_map_collect_vec.ensures.answers)

pub returns-clause-first : goal.returns-clause-first
returns-clause-first g c = if_err _ _ c.try_map_collect_vec.result
    (digests_compared c.args.messages c.args.digests c.new.result.pairs.right
    c.new.result.pairs.left.start c.new.result.pairs.left.end c.new.ensures.list
    c.new.ensures.start c.new.ensures.end c.try_map_collect_vec.result
    c.try_map_collect_vec.ensures.answers)
