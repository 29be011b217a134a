-- The closure's one result is the node above the two, and each leaf its word's number.
use Rattle.shapes_command.proofs.{◌≡◌, rules, IfOk-weaker, combined, root_of_words}
use Rattle.shapes_command.proofs.root.root_through.Goals as goal

pub returns : goal.returns
returns g c =
    IfOk-weaker c.root_of_leaves_by_levels.result _ _
    (λ root h. root_of_words _ (λ a b c'. c' ≡ combined a b) _ c.args.items.now root
    (λ x y z k. search rules) (λ word value k. search rules) c.requires.items h)
    c.root_of_leaves_by_levels.ensures.root
