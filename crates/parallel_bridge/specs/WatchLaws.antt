-- The laws of a watch of a gate, and of no watch: an impl can cite them from here alone.
use Rattle.std.specs.Prelude.{◌≡◌, ℕ, ◌<◌, ◌≤◌, List, [], All}
use Rattle.std.proofs.Common.{arith, refl, sym, subst}
use Rattle.std.proofs.lemmas.List.Elements.{All-nil}
use Rattle.parallel_bridge.specs.declared.gate.watch.GateWatch.{GateWatch}
use Rattle.parallel_bridge.specs.Endings.{HasLooked, WatchEnds, refusing, well}
use Rattle.parallel_bridge.specs.Gates.{MayWatch, known}

-- who told nothing told no start in front of anything
silent : (P : ℕ → Type 0) (told : List ℕ) → told ≡ [] → All P told
silent P told none = subst (All P) (sym none) (All-nil P)

-- a part of which no item was handed over yet may end well
pub watch_begins : (watch : GateWatch) (count : ℕ) → MayWatch watch count
    → WatchEnds watch count watch well
watch_begins watch count may = (
  refl,
  refl,
  may.0.0,
  may.0.1,
  (refl, silent (λ told. watch.start ≤ told) (known watch.seat).told may.0.2, may.0.2),
)

-- and a part that may end well may be refused
pub watch_refused : (first last : GateWatch) (count : ℕ) → WatchEnds first count last well
    → WatchEnds first count last refusing
watch_refused first last count h = (
  h.0,
  h.1,
  h.2,
  h.3,
  (h.4.0, h.4.1, silent (λ told. first.start < told) (known last.seat).told h.4.2),
)

-- a watch has not looked since itself
pub watch_unlooked : (watch : GateWatch) → HasLooked watch 0 watch
watch_unlooked watch = omega arith
