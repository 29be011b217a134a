-- the values that may come are the domain
use Rattle.parallel_bridge.specs.Comes.{Comes, OkStep}
use Rattle.parallel_bridge.proofs.list.try_fold.try_fold_parallel.Given as goal

abbrev pub ghosts-try_fold_among : goal.ghosts-try_fold_among
ghosts-try_fold_among g a = record {
  has = Comes (λ e. g.ID.Fn.post a.identity.now tt e)
      (OkStep (λ r x out. g.F.Fn.post a.fold_op.now (r, (x, tt)) out))
      (λ p q r. g.G.Fn.post a.reduce_op.now (p, (q, tt)) r) (g.P.Parts.may a.parts);
}
