-- each call goes one level deeper
use Rattle.parallel_bridge.proofs.drive.+push_halves.Given as goal

abbrev pub decreases-push_halves : goal.decreases-push_halves
decreases-push_halves l = l.depth
