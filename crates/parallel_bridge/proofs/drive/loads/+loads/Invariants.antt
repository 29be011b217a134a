-- Each load counts the steps that it may take, and a split takes one of them; a load of a row has
-- at most as many threads as the row's loads are to have.
use Rattle.parallel_bridge.proofs.{◌+◌, ◌*◌, steps_left, steps_of}
use Rattle.parallel_bridge.proofs.drive.loads.+loads.Given as goal

abbrev pub decreases-drive_load : goal.decreases-drive_load
decreases-drive_load g l = 64 * l.load.threads

abbrev pub decreases-drive_loads : goal.decreases-drive_loads
decreases-drive_loads g l = 64 * l.grain + 3 + 8 * steps_left l.loads.now.items

abbrev pub decreases-drive_parted : goal.decreases-drive_parted
decreases-drive_parted g l = 64 * l.grain + 2 + 8 * (steps_left l.loads.now.items + steps_of l.load)

abbrev pub decreases-run_row-share : goal.decreases-run_row-share
decreases-run_row-share g l = 64 * l.grain + 1

abbrev pub decreases-run_row : goal.decreases-run_row
decreases-run_row g l = 64 * l.grain + 2
