-- what is said of the items that are left holds of all, after those that the folder took
use Rattle.parallel_bridge.proofs.{◌++◌, List, Result, length}
use Rattle.parallel_bridge.specs.Endings.{Goes, LooksMore, well}
use Rattle.parallel_bridge.specs.Watched.{granted, items_of, watch_of}
use Rattle.parallel_bridge.proofs.bridge.feed.feed_items.Given as goal

abbrev pub invariant-feeding : goal.invariant-feeding
invariant-feeding g l = record {
  cursor : g.C.Cursor.ready (items_of (granted l.leave));
  ready : g.F.Folder.ready l.folder;
  takes : (x : g.row.X.Denot) → g.C.Cursor.may (items_of (granted l.leave)) x
      → g.F.Folder.takes l.folder x;
  came : (xs : List g.row.X.Denot)
      × ((more : List g.row.X.Denot) → g.C.Cursor.gives (items_of (granted l.leave)) more
      → g.C.Cursor.gives (items_of (granted l.fn.leave)) (xs ++ more))
      × ((more : List g.row.X.Denot) (out : Result g.row.R.Denot g.row.E.Denot)
      → g.F.Folder.gives l.folder more out → g.F.Folder.gives l.fn.folder (xs ++ more) out)
      × LooksMore g.G.Watch.looked (length xs) (watch_of (granted l.fn.leave))
      (watch_of (granted l.leave));
  leaves : (rest : g.row.L.Denot) → g.C.Cursor.leaves (items_of (granted l.leave)) rest
      → g.C.Cursor.leaves (items_of (granted l.fn.leave)) rest;
  goes : Goes g.G.Watch.ends (watch_of (granted l.fn.leave)) (watch_of (granted l.leave)) well;
}

abbrev pub decreases-feeding : goal.decreases-feeding
decreases-feeding g l = g.C.Cursor.left (items_of (granted l.leave))
