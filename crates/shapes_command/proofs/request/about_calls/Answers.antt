-- A line about calls is about lists or about explorers.
use Rattle.shapes_command.proofs.{IsListLine, IsExplorerLine, SaysList, SaysExplorer, found_either}
use Rattle.shapes_command.proofs.request.about_calls.Goals as goal

pub returns : goal.returns
returns c =
    let words = c.args.words.now in
    found_either (IsListLine words) (IsExplorerLine words) (SaysList words)
    (SaysExplorer words) c.about_lists.result c.about_explorers.result c.or.result c.or.ensures
    c.about_lists.ensures c.about_explorers.ensures
