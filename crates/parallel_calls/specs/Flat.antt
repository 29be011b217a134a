-- The items of lists, one list after another.
use Rattle.std.specs.Prelude.{◌≡◌, List, Vec, flat_map}
use Rattle.std.specs.declared.alloc.Global.{Global}
use Rattle.parallel_bridge.specs.Lists.{MapOf}

-- the items of each, one list after another
abbrev pub items_of : {T : Type 0} → List (Vec T Global) → List T
items_of lists = flat_map (λ list. list.items) lists

-- the items of the lists that may be given, in the items' order
abbrev pub FlatOf : {X T : Type 0} → (X → Vec T Global → Type 0) → List X → List T → Type 0
FlatOf {T = T} gives xs all =
    (lists : List (Vec T Global)) × MapOf gives xs lists × (all ≡ items_of lists)

-- the items of a list that may be given
abbrev pub GivesItems : {X T : Type 0} → (X → Vec T Global → Type 0) → X → List T → Type 0
GivesItems {T = T} gives x items = (list : Vec T Global) × gives x list × (items ≡ list.items)
