-- The items of a segment under its watch, as contracts name them.
use Rattle.parallel_bridge.specs.declared.watched.Coming.{Coming}
use Rattle.parallel_bridge.specs.declared.watched.Leave.{Leave}
use Rattle.parallel_bridge.specs.declared.watched.Watched.{Watched}

-- what gives the items that didn't come yet, and the watch
abbrev pub items_of : {C G : Type 0} → Watched C G → C
items_of held = held.items

abbrev pub watch_of : {C G : Type 0} → Watched C G → G
watch_of held = held.watch

-- what a leave is given for
abbrev pub granted : {C G : Type 0} → Leave C G → Watched C G
granted leave = leave.held

-- the item that came, and what is behind it
abbrev pub item_of : {X C G : Type 0} → Coming X C G → X
item_of coming = coming.item

abbrev pub behind : {X C G : Type 0} → Coming X C G → Watched C G
behind coming = coming.held
