use Rattle.std.proofs.Common.{length}
use Rattle.trials.proofs.rig.Rig.play_all.Given as goal

abbrev pub decreases-loop-call : goal.decreases-loop-call
decreases-loop-call g l = length l.rest
