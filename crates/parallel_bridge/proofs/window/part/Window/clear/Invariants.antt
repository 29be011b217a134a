-- What is left of the items is as long as the turns that are left.
use Rattle.parallel_bridge.proofs.{◌≡◌, ◌+◌, length}
use Rattle.parallel_bridge.proofs.window.part.Window.clear.Given as goal

abbrev pub invariant-loop-item : goal.invariant-loop-item
invariant-loop-item g l = (l.self.start ≡ l.fn.self.start) × (l.self.room ≡ l.fn.self.room)
    × (l._item + length l.self.items ≡ l._item-end)
