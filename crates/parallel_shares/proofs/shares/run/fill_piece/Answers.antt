-- The open stretch goes on by the piece, or gets its result before it.
use Rattle.parallel_shares.proofs.{refl, way_grows, way_anew}
use Rattle.parallel_shares.proofs.shares.run.fill_piece.Goals as goal

pub returns-in-Some-clause-chain : goal.returns-in-Some-clause-chain
returns-in-Some-clause-chain g c len is first cells way =
    way_grows _ _ len first cells c.args.opened c.args.results.now.items c.args.state.now way
    c.args.piece c.in-Some.longer c.fill.new.arg2 c.in-Some.ensures is
    (_, _, refl, c.fill.ensures, refl)

pub returns-clause-chain : goal.returns-clause-chain
returns-clause-chain g c len is first cells way =
    way_anew _ _ len first cells c.args.opened c.args.results.now.items c.args.state.now way
    c.args.piece c.finish_open.new.state c.fill-2.new.arg2 c.finish_open.new.results.items
    c.in_default.ensures is c.in_ok-finish_open.ensures.closes
    (_, _, refl, c.fill-2.ensures, refl)

pub fill-requires : goal.fill-requires
fill-requires g c = c.requires.fill_accepts _

pub finish_open-requires : goal.finish_open-requires
finish_open-requires g c = c.requires.open_accepts

pub fill-requires-2 : goal.fill-requires-2
fill-requires-2 g c = c.requires.fill_accepts _
