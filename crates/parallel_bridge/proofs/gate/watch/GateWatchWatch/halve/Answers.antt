-- What the halves' seats say, put together.
use Rattle.parallel_bridge.proofs.Watches.{watches_joined}
use Rattle.parallel_bridge.proofs.gate.watch.GateWatchWatch.halve.Goals as goal

pub returns-clause-joined : goal.returns-clause-joined
returns-clause-joined c =
    let made = c.split.ensures in
    watches_joined c.args.self c.split.result.0 c.split.result.1 c.args.len c.requires.long
    made.gate.0 made.start.0 made.start.1 made.front made.back
