-- the values that may come are the domain
use Rattle.parallel_bridge.proofs.{AnyState, FoldStep}
use Rattle.parallel_bridge.specs.Comes.{Comes}
use Rattle.parallel_bridge.proofs.list.fold_init.fold_init_parallel.Given as goal

abbrev pub ghosts-fold_init_among : goal.ghosts-fold_init_among
ghosts-fold_init_among g a = record {
  has = Comes (λ e. g.ID.Fn.post a.identity.now tt e)
      (AnyState (FoldStep (λ r p x b q. g.F.Fn.post a.fold_op.now (r, (p, (x, tt))) (b, (q, tt)))))
      (λ p q r. g.G.Fn.post a.reduce_op.now (p, (q, tt)) r) (g.P.Parts.may a.parts);
}
