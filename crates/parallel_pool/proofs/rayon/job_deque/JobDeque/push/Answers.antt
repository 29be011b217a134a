-- A push keeps the rule, and tells what the owner has seen.
use Rattle.parallel_pool.proofs.{refl, subst, ◌∙◌, HasPushed, pushes, told}
use Rattle.crossbeam_deque.specs.Handles.{worker_view}
use Rattle.parallel_pool.proofs.rayon.job_deque.JobDeque.push.Goals as goal

pub push_as-requires-clause-pushes : goal.push_as-requires-clause-pushes
push_as-requires-clause-pushes g c = pushes _ _ _

pub returns : goal.returns
returns g c = told c.push_as.result c.push_as.ensures.rule
    (λ _ h. subst (λ v. HasPushed v c.args.job (worker_view c.push_as.new.self)) c.self.view_is
    (h.0 c.args.job refl))
    (λ _ h. (h.0, h.1 ∙ c.self.view_is))
