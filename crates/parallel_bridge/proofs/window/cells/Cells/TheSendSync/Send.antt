-- Slots may go to another thread where their items may.
use Rattle.parallel_bridge.proofs.{cells_send}
use Rattle.parallel_bridge.proofs.Walks.{RattleType, IsSend}
use Rattle.parallel_bridge.specs.contracts.window.cells.Cells.{the_row}

pub send : (R : RattleType) → IsSend R → IsSend (the_row R)
send = cells_send
