-- Slots may go to another thread where their items may, and the right to free a block where
-- its allocator may.
use Rattle.parallel_bridge.proofs.Walks.{ℕ, ◌+◌, List, [], ◌∷◌, Option, Some, None, type_size, full_share, Fml, RattleType, Ptr, block_ptr, null_ptr, exits_of, shape, fields, to, IsSend, AllSend}
use Rattle.parallel_bridge.proofs.Walks.{part_keyless, owning_send, struct_send, sendable, Ghosts, Bool, true, false, has_block, owns_if, slots, cells_own}
use base.Shift.{Keyless}
use Rattle.std_alloc.proofs.SendSync.{FreesAnywhere, quiet}
use Rattle.parallel_bridge.specs.contracts.window.cells.Cells as cells
use Rattle.parallel_bridge.specs.contracts.window.cells.Deed as deed

module _ (R : RattleType) (s : IsSend R) where
  places_keyless : (b o : ℕ) (cs : List (Option R.Denot)) → Keyless (slots R b o cs)
  places_keyless b o [] = tt
  places_keyless b o (None ∷ cs) = (tt, places_keyless b (o + type_size R) cs)
  places_keyless b o (Some x ∷ cs) =
      (part_keyless R s full_share x b o, places_keyless b (o + type_size R) cs)

  row_keyless : (p : Ptr) (cs : List (Option R.Denot)) → Keyless (cells_own R p cs)
  row_keyless (block_ptr b o) cs = (tt, places_keyless b o cs)
  row_keyless null_ptr cs = tt

  pub cells_send : IsSend (cells.the_row R)
  cells_send =
      let owned = cells.the_type R in let parts : AllSend (fields owned) = (search sendable, tt) in
      owning_send owned parts (λ d. row_keyless d.at d.slots)
      (λ k. quiet (to owned) (exits_of k (fields owned))
      ((struct_send (shape owned) parts).leaving k))

if_there : (there : Bool) (token : Fml) → Keyless token → Keyless (owns_if there token)
if_there true token k = k
if_there false token k = tt

module _ (R A : RattleType) (g : Ghosts A.Denot) where
  pub deed_send : FreesAnywhere A.Denot g → IsSend (deed.the_row R A g)
  deed_send f =
      let owned = deed.the_type R A g in
      let parts : AllSend (fields owned) = (search sendable, tt) in
      owning_send owned parts (λ d. if_there (has_block d.len) _ (f.frees d.alloc _ d.at))
      (λ k. quiet (to owned) (exits_of k (fields owned))
      ((struct_send (shape owned) parts).leaving k))
