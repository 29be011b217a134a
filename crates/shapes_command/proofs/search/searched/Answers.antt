-- The serial run and the parallel one differ.
use Rattle.shapes_command.proofs.{true≢false, sym, ends_at_parallel}
use Rattle.shapes_command.proofs.search.searched.Goals as goal

pub returns : goal.returns
returns g c =
    ends_at_parallel _ _ (λ same. true≢false (sym same)) c.requires.serial c.requires.parallel _
    c.explore.result c.explore.ensures
