-- What a producer of owned items has, and what is left of an iterator over them.
use Rattle.std.specs.Prelude.{List}
use Rattle.parallel_bridge.specs.declared.producer.DrainProducer.{DrainProducer}
use Rattle.parallel_bridge.specs.declared.producer.SliceDrain.{SliceDrain}

-- the items, in order
abbrev pub drain_items : {T : Type 0} → DrainProducer T → List T
drain_items parts = parts.items.items

-- the items that are still to come, from the front
abbrev pub drain_rest : {T : Type 0} → SliceDrain T → List T
drain_rest drain = drain.rest.items
