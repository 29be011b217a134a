-- the values that may come are the domain
use Rattle.parallel_bridge.specs.Comes.{Comes}
use Rattle.parallel_bridge.proofs.list.fold.fold_parallel.Given as goal

abbrev pub ghosts-fold_among : goal.ghosts-fold_among
ghosts-fold_among g a = record {
  has = Comes (λ e. g.ID.Fn.post a.identity.now tt e)
      (λ r x b. g.F.Fn.post a.fold_op.now (r, (x, tt)) b)
      (λ p q r. g.G.Fn.post a.reduce_op.now (p, (q, tt)) r) (g.P.Parts.may a.parts);
}
