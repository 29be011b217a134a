-- a task is above its two halves
use Rattle.parallel_bridge.proofs.drive.+drive_alone.Given as goal

abbrev pub decreases-drive_alone : goal.decreases-drive_alone
decreases-drive_alone g l = l.depth
