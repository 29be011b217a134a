-- A line with words is about shares or about calls.
use Rattle.shapes_command.proofs.{IsShareLine, IsCallLine, SaysShare, SaysCall, found_either}
use Rattle.shapes_command.proofs.request.with_words.Goals as goal

pub returns : goal.returns
returns c =
    let words = c.args.words.now in
    found_either (IsShareLine words) (IsCallLine words) (SaysShare words)
    (SaysCall words) c.about_shares.result c.about_calls.result c.or.result c.or.ensures
    c.about_shares.ensures c.about_calls.ensures
