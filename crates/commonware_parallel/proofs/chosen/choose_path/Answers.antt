-- The pick that the strategy took is the one that goes on.
use Rattle.commonware_parallel.proofs.{subst}
use Rattle.commonware_parallel.proofs.chosen.choose_path.Goals as goal

pub returns-clause-takes : goal.returns-clause-takes
returns-clause-takes g c =
    subst (g.S.Chooser.takes c.args.strategy.now (g.P.Place.site_of c.args.site) c.args.call)
    c.path.ensures c.in_ok-pick.ensures.takes.1
