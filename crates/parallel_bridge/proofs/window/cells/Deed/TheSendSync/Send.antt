-- The right to free a block may go to another thread where the allocator may.
use Rattle.parallel_bridge.proofs.{deed_send}
use Rattle.parallel_bridge.proofs.Walks.{RattleType, IsSend, Frees, Ghosts}
use Rattle.parallel_bridge.specs.contracts.window.cells.Deed.{the_row}

pub send : (R A : RattleType) (g : Ghosts A.Denot) → IsSend A → Frees g g.dealloc_token
    → IsSend (the_row R A g)
send R A g s = deed_send R A g
