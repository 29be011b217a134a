-- what is said of further items holds of all, after those that came
use Rattle.parallel_bridge.proofs.{◌++◌, List, Result}
use Rattle.parallel_bridge.proofs.plumbing.Folder.consume_iter.Given as goal

abbrev pub invariant-loop-item : goal.invariant-loop-item
invariant-loop-item g l = record {
  ready : g.Self.Folder.ready l.folder;
  takes : (x : g.row.Item.Denot) → g.Self.Folder.takes l.initial.folder x
      → g.Self.Folder.takes l.folder x;
  gives : (more : List g.row.Item.Denot) (out : Result g.row.R.Denot g.row.E.Denot)
      → g.Self.Folder.gives l.folder more out
      → g.Self.Folder.gives l.initial.folder (l.yielded ++ more) out;
}
