-- a result for each item that came; what the items that are left may give is all, after those; a
-- part that might end well still may
use Rattle.parallel_bridge.proofs.{◌≡◌, ◌-◌, ◌++◌, List, length, SamePlaces}
use Rattle.parallel_bridge.specs.Endings.{Goes, well}
use Rattle.parallel_bridge.specs.Watched.{items_of, watch_of}
use Rattle.parallel_bridge.proofs.fill.writer.write_items.Given as goal

abbrev pub invariant-loop-room : goal.invariant-loop-room
invariant-loop-room g l = record {
  cursor : g.C.Cursor.ready (items_of l.items);
  may : (x : g.row.X.Denot) → g.C.Cursor.may (items_of l.items) x
      → g.C.Cursor.may (items_of l.fn.items) x;
  came : (xs : List g.row.X.Denot)
      × ((more : List g.row.X.Denot) → g.C.Cursor.gives (items_of l.items) more
      → g.C.Cursor.gives (items_of l.fn.items) (xs ++ more))
      × g.W.Writer.so_far l.writer xs l.state l.room.items × (length l.room.items ≡ length xs);
  leaves : (rest : g.row.L.Denot) → g.C.Cursor.leaves (items_of l.items) rest
      → g.C.Cursor.leaves (items_of l.fn.items) rest;
  place : SamePlaces l.initial.room l.room;
  first : l.room.before ≡ 0;
  goes : Goes g.G.Watch.ends (watch_of l.fn.items) (watch_of l.items) well;
  looked : g.G.Watch.looked (watch_of l.fn.items) (length l.room.items) (watch_of l.items);
}

abbrev pub decreases-loop-room : goal.decreases-loop-room
decreases-loop-room g l = l.room.room - length l.room.items
