-- A balanced cut has each index once.
use Rattle.std.proofs.Common.{subst, sym}
use Rattle.parallel_shares.proofs.Cuts.{BalancedCut-indices}
use Rattle.commonware_parallel.proofs.Outcomes.{flat_answer, flat_memory}
use Rattle.commonware_parallel.specs.Batches.{ranges_of}
use Rattle.uses.specs.Batches.{CoversOnce}
use Rattle.uses.proofs.batches.batch_ranges.Goals as goal

pub returns-clause-each_once : goal.returns-clause-each_once
returns-clause-each_once g c =
    flat_answer c.try_run_batches.result c.flat.result _ _ c.flat.ensures c.try_run_batches.ensures
    (λ ranges run. subst (CoversOnce c.args.len) (sym run.8.1.0)
    (BalancedCut-indices c.args.len (ranges_of run.4) run.5.0))

pub returns-clause-fault : goal.returns-clause-fault
returns-clause-fault g c =
    flat_memory c.try_run_batches.result c.flat.result _ c.flat.ensures c.try_run_batches.ensures
    (λ fault run. run.8.1.1)
