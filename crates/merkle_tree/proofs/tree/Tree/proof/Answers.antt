-- The steps lead to the root, to which the commitment is.
use Rattle.std.proofs.Common.{◌≡◌, List, ℕ, length, rules, subst}
use Rattle.std.proofs.lemmas.Result.{IfOk-weaker}
use Rattle.merkle_tree.specs.Merkle.{climb, levels_of, lowest, merkle_root, node_at, node_digest}
use Rattle.merkle_tree.proofs.Commitments.{accepted_by}
use Rattle.merkle_tree.proofs.tree.Tree.proof.Goals as goal

pub returns-clause-accepted : goal.returns-clause-accepted
returns-clause-accepted c =
    let same : lowest (levels_of c.deref.result.now) ≡ c.args.self.now = search rules in
    IfOk-weaker c.proof_in.result _ _
    (λ proof led leaf own.
    accepted_by c.args.self.now c.args.index proof.items leaf c.requires
    (subst (λ (leaves : List (List ℕ)).
    climb node_digest (length leaves) c.args.index (node_at leaves c.args.index) proof.items
    ≡ merkle_root node_digest leaves) same led) own) c.proof_in.ensures.leads
